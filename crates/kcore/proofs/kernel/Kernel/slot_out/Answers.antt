use Rattle.std.proofs.Common.{◌≡◌, true, false, sym, subst}
use Rattle.entry_log.specs.declared.entry.Actor.{Actor}
use Rattle.machine.specs.Arrived.{arrived_in}
use Rattle.machine.specs.Boot.{boot_in}
use Rattle.machine.specs.History.{after_in, CanAct}
use Rattle.machine.specs.Run.{slot_actor}
use Rattle.machine_laws.proofs.Reached.AfterHistory.{well_formed-after}
use Rattle.machine_laws.proofs.Reached.Histories.{slot_can}
use Rattle.machine_laws.proofs.Reached.Modes.{shared-after}
use Rattle.machine_safe.specs.FindsAndReturns.{is_out_actor}
use Rattle.kcore.proofs.OutKernel.{slot-apart}
use Rattle.kcore.proofs.OutSlots.{slot-out}
use Rattle.kcore.proofs.kernel.Kernel.slot_out.Goals as goal

pub step_out-requires-clause-can : goal.step_out-requires-clause-can
step_out-requires-clause-can g c =
    let k = c.self.inside in
    let H = after_in true k.script k.history.items in
    let qs = arrived_in true k.script k.history.items in
    let is : c.slot_actor-actor.result ≡ slot_actor H qs c.args.slot =
    slot-out k.script k.history.items k.core c.args.slot c.slot_actor-actor.result c.self.invariant.stands
    (rw (← c.self.view_is) at c.requires.mode) c.slot_actor-actor.ensures in
    rw (← c.self.view_is) (subst (CanAct k.script H) (sym is)
    (slot_can k.script H qs c.args.slot (rw (← c.self.view_is) at c.requires.declared)
    (well_formed-after true k.script k.history.items c.self.invariant.stands.valid)))

pub step_out-requires-clause-stays : goal.step_out-requires-clause-stays
step_out-requires-clause-stays g c =
    let k = c.self.inside in
    let H = after_in true k.script k.history.items in
    let qs = arrived_in true k.script k.history.items in
    let is : c.slot_actor-actor.result ≡ slot_actor H qs c.args.slot =
    slot-out k.script k.history.items k.core c.args.slot c.slot_actor-actor.result c.self.invariant.stands
    (rw (← c.self.view_is) at c.requires.mode) c.slot_actor-actor.ensures in
    rw (← c.self.view_is) (subst (λ (a : Actor). is_out_actor H a ≡ false) (sym is)
    (slot-apart k.script H qs c.args.slot (shared-after k.script (boot_in true k.script) k.history.items)
    (well_formed-after true k.script k.history.items c.self.invariant.stands.valid)))

pub returns-clause-entry : goal.returns-clause-entry
returns-clause-entry g c =
    let k = c.self.inside in
    let is = slot-out k.script k.history.items k.core c.args.slot c.slot_actor-actor.result c.self.invariant.stands
    (rw (← c.self.view_is) at c.requires.mode) c.slot_actor-actor.ensures in
    rw (← c.self.view_is, ← is) (rw (← c.self.view_is) at c.step_out.ensures.entry)
