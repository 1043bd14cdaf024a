use Rattle.nano_sync.specs.contracts.sync.NanoSync.{the_view}
use Rattle.state_rows.proofs.HeldMutexes.{held_by-take}
use Rattle.state_rows.proofs.Soundness.{sound_taken}
use Rattle.nano_sync.proofs.sync.NanoSync.take.Goals as goal

pub invariant_of-self-2 : goal.invariant_of-self-2
invariant_of-self-2 c =
    sound_taken _ c.args.t c.args.f c.self.invariant (rw (← c.self.view_is) at c.requires.thread)
    (rw (← c.self.view_is) at c.requires.mutex) (rw (← c.self.view_is) at c.requires.holds_none)

pub returns-clause-own : goal.returns-clause-own
returns-clause-own c =
    λ _. held_by-take (the_view c.self.inside) c.args.t c.args.f (rw (← c.self.view_is) at c.requires.mutex)
    (rw (← c.self.view_is) at c.requires.holds_none)
