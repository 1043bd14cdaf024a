use Rattle.std.proofs.Common.{◌≡◌, ◌∙◌, ◌+◌, false, length, ap, sym, subst}
use Rattle.script_types.specs.declared.script.Slot.{Slot}
use Rattle.machine.specs.Arrived.{arrived}
use Rattle.machine.specs.History.{after, CanAct}
use Rattle.machine.specs.Run.{slot_actor}
use Rattle.machine.specs.declared.state.State.{State}
use Rattle.machine_laws.proofs.Reached.AfterHistory.{well_formed-after}
use Rattle.machine_laws.proofs.Reached.Histories.{slot_can}
use Rattle.machine_laws.proofs.ValidSlots.{valid_slot_is_declared}
use Rattle.machine_safe.proofs.ReadyHolders.{idle_choice}
use Rattle.kcore.proofs.ScheduleGoes.{H, run-stands}
use Rattle.kcore.proofs.schedule_run.ScheduleRun.take_slot.Goals as goal

pub pause-requires-clause-chosen : goal.pause-requires-clause-chosen
pause-requires-clause-chosen c =
    let r = c.self.inside in
    let history = H r.script (r.before + length r.part.items) r.core c.self.invariant in
    let idle = rw (← c.self.view_is) at (c.is_pause.ensures.idle c.if-is_pause.true) in
    let nobody = (idle_choice false r.script history c.self.invariant.kernel.stands.valid).chosen idle in
    let slot = rw (← c.self.view_is) at c.requires.slot in
    rw (← c.self.view_is) (sym nobody
    ∙ ap (λ (s : Slot). slot_actor (after r.script history) (arrived r.script history) s) (sym (c.is_pause.ensures.go c.if-is_pause.true) ∙ slot))

pub pause-requires-clause-can : goal.pause-requires-clause-can
pause-requires-clause-can c = c.is_pause.ensures.idle c.if-is_pause.true

pub step-requires-clause-chosen : goal.step-requires-clause-chosen
step-requires-clause-chosen c =
    let r = c.self.inside in
    let h = run-stands r.script (r.before + length r.part.items) r.core c.self.invariant in
    let history = H r.script (r.before + length r.part.items) r.core c.self.invariant in
    let qs = arrived r.script history in
    let slot = rw (← c.self.view_is) at c.requires.slot in
    rw (← c.self.view_is) (c.slot_actor-actor.ensures qs h.queues.queues ∙ ap (λ (U : State). slot_actor U qs c.args.slot) h.state
    ∙ ap (λ (s : Slot). slot_actor (after r.script history) qs s) slot)

pub step-requires-clause-can : goal.step-requires-clause-can
step-requires-clause-can c =
    let r = c.self.inside in
    let h = run-stands r.script (r.before + length r.part.items) r.core c.self.invariant in
    let history = H r.script (r.before + length r.part.items) r.core c.self.invariant in
    let S = after r.script history in
    let qs = arrived r.script history in
    let slot = rw (← c.self.view_is) at c.requires.slot in
    let declared = rw (← slot) at (valid_slot_is_declared r.script (r.before + length r.part.items) h.valid) in
    let is : c.slot_actor-actor.result ≡ slot_actor S qs c.args.slot =
    c.slot_actor-actor.ensures qs h.queues.queues ∙ ap (λ (U : State). slot_actor U qs c.args.slot) h.state in
    rw (← c.self.view_is) (subst (CanAct r.script S) (sym is)
    (slot_can r.script S qs c.args.slot declared (well_formed-after false r.script history h.valid)))
