use Rattle.std.proofs.Common.{arith, false, refl}
use Rattle.entry_log.specs.declared.entry.Actor.TheVariants.{Idle}
use Rattle.machine_safe.proofs.LegalSafety.{legal_safety}
use Rattle.machine_safe.proofs.ReadyHolders.{holders_ready}
use Rattle.kcore.proofs.Goes.{rested}
use Rattle.kcore.proofs.KernelGoes.{alone-entry, alone-follows, alone-kernel, alone-mode}
use Rattle.kcore.proofs.kernel.Kernel.pause.Goals as goal

pub rest-requires-clause-few : goal.rest-requires-clause-few
rest-requires-clause-few g c = let room = rw (← c.self.view_is) at c.requires.room in let few = c.self.invariant.few in omega arith

pub rest-requires-clause-room : goal.rest-requires-clause-room
rest-requires-clause-room g c = let room = rw (← c.self.view_is) at c.requires.room in let fits = c.self.invariant.fits in omega arith

pub invariant_of-self : goal.invariant_of-self
invariant_of-self g c =
    let k = c.self.inside in
    let went = rested k.script k.history.items c.rest.new.history.items k.core c.rest.ensures.longer in
    alone-kernel k.script k.history.items k.core k.out k.room _ c.self.invariant (rw (← c.self.view_is) at c.requires.mode)
    c.rest.new.history.items k.core Idle (rw (← c.self.view_is) at c.requires.can) went _ (λ _. refl) _ c.rest.ensures.capacity
    refl (rw (← c.self.view_is) at c.requires.room)

pub returns-clause-mode : goal.returns-clause-mode
returns-clause-mode g c =
    let k = c.self.inside in
    let went = rested k.script k.history.items c.rest.new.history.items k.core c.rest.ensures.longer in
    alone-mode k.script k.history.items k.core k.out k.room _ c.self.invariant (rw (← c.self.view_is) at c.requires.mode)
    c.rest.new.history.items k.core Idle (rw (← c.self.view_is) at c.requires.can) went

pub returns-clause-entry : goal.returns-clause-entry
returns-clause-entry g c =
    let k = c.self.inside in
    let went = rested k.script k.history.items c.rest.new.history.items k.core c.rest.ensures.longer in
    rw (← c.self.view_is) (alone-entry k.script k.history.items k.core k.out k.room _ c.self.invariant
    (rw (← c.self.view_is) at c.requires.mode) c.rest.new.history.items k.core Idle (rw (← c.self.view_is) at c.requires.can) went)

pub returns-clause-legal : goal.returns-clause-legal
returns-clause-legal g c =
    let k = c.self.inside in
    let went = rested k.script k.history.items c.rest.new.history.items k.core c.rest.ensures.longer in
    (alone-follows k.script k.history.items k.core k.out k.room _ c.self.invariant (rw (← c.self.view_is) at c.requires.mode)
    c.rest.new.history.items k.core Idle (rw (← c.self.view_is) at c.requires.can) went).legal

pub returns-clause-safe : goal.returns-clause-safe
returns-clause-safe g c = legal_safety false c.self.inside.script c.rest.new.history.items c.self.invariant.stands.valid (returns-clause-legal g c)

pub returns-clause-holders : goal.returns-clause-holders
returns-clause-holders g c = holders_ready false c.self.inside.script c.rest.new.history.items c.self.invariant.stands.valid
