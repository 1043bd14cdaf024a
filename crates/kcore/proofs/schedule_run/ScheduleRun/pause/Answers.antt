use Rattle.std.proofs.Common.{◌+◌, arith, length, refl}
use Rattle.entry_log.specs.declared.entry.Actor.TheVariants.{Idle}
use Rattle.kcore.proofs.Goes.{rested-at}
use Rattle.kcore.proofs.Runs.{run_longer}
use Rattle.kcore.proofs.ScheduleGoes.{run-next, takes-one}
use Rattle.kcore.proofs.schedule_run.ScheduleRun.pause.Goals as goal

pub rest_at-requires : goal.rest_at-requires
rest_at-requires c = rw (← c.self.view_is) at c.requires.room

pub invariant_of-self : goal.invariant_of-self
invariant_of-self c =
    let r = c.self.inside in
    run-next r.script (r.before + length r.part.items) r.core c.self.invariant (rw (← c.self.view_is) at c.requires.more) c.args.place
    (rw (← c.self.view_is) at c.requires.place) r.part.items c.rest_at.new.entries.items r.core Idle
    (rw (← c.self.view_is) at c.requires.can) (rw (← c.self.view_is) at c.requires.chosen)
    (rested-at r.script c.args.place r.part.items c.rest_at.new.entries.items r.core c.rest_at.ensures.longer) _ (λ _. refl) refl _
    (omega (arith, run_longer r.part.items c.rest_at.new.entries.items _ c.rest_at.ensures.longer))

pub returns : goal.returns
returns c =
    let r = c.self.inside in
    rw (← c.self.view_is) (takes-one r.script (r.before + length r.part.items) r.core c.self.invariant (rw (← c.self.view_is) at c.requires.more)
    c.args.place (rw (← c.self.view_is) at c.requires.place) r.part.items c.rest_at.new.entries.items r.core Idle
    (rw (← c.self.view_is) at c.requires.can) (rw (← c.self.view_is) at c.requires.chosen)
    (rested-at r.script c.args.place r.part.items c.rest_at.new.entries.items r.core c.rest_at.ensures.longer) _ _ c.rest_at.ensures.capacity _
    (omega (arith, run_longer r.part.items c.rest_at.new.entries.items _ c.rest_at.ensures.longer)))
