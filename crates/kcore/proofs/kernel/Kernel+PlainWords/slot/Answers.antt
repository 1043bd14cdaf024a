use Rattle.std.proofs.Common.{◌≡◌, ◌∙◌, false, ap, sym, subst}
use Rattle.script_types.specs.declared.script.Slot.{Slot}
use Rattle.machine.specs.Arrived.{arrived}
use Rattle.machine.specs.History.{after, CanAct}
use Rattle.machine.specs.Run.{slot_actor}
use Rattle.machine.specs.declared.state.State.{State}
use Rattle.machine_laws.proofs.Reached.AfterHistory.{well_formed-after}
use Rattle.machine_laws.proofs.Reached.Histories.{slot_can}
use Rattle.machine_safe.proofs.ReadyHolders.{idle_choice}
use Rattle.entry_log.specs.declared.entry.Actor.TheVariants.{Idle}
use Rattle.kcore.proofs.KernelGoes.{alone-stands}
use Rattle.kcore.proofs.kernel.Kernel+PlainWords.slot.Goals as goal

pub pause-requires-clause-can : goal.pause-requires-clause-can
pause-requires-clause-can c = c.is_pause.ensures.idle c.if-is_pause.true c.requires.mode

pub step-requires-clause-can : goal.step-requires-clause-can
step-requires-clause-can c =
    let k = c.self.inside in
    let h = alone-stands k.script k.history.items k.core k.out k.room _ c.self.invariant (rw (← c.self.view_is) at c.requires.mode) in
    let H = after k.script k.history.items in
    let qs = arrived k.script k.history.items in
    let is : c.slot_actor-actor.result ≡ slot_actor H qs c.args.slot =
    c.slot_actor-actor.ensures qs h.queues.queues ∙ ap (λ (U : State). slot_actor U qs c.args.slot) h.state in
    rw (← c.self.view_is) (subst (CanAct k.script H) (sym is)
    (slot_can k.script H qs c.args.slot (rw (← c.self.view_is) at c.requires.declared)
    (well_formed-after false k.script k.history.items h.valid)))

-- nobody is chosen, since nobody could act
pub returns-then-is_pause-clause-entry : goal.returns-then-is_pause-clause-entry
returns-then-is_pause-clause-entry c =
    let k = c.self.inside in
    let H = after k.script k.history.items in
    let qs = arrived k.script k.history.items in
    let idle = rw (← c.self.view_is) at (c.is_pause.ensures.idle c.if-is_pause.true c.requires.mode) in
    let nobody : slot_actor H qs c.args.slot ≡ Idle =
    ap (λ (s : Slot). slot_actor H qs s) (c.is_pause.ensures.go c.if-is_pause.true)
    ∙ (idle_choice false k.script k.history.items c.self.invariant.stands.valid).chosen idle in
    rw (← c.self.view_is, nobody) (rw (← c.self.view_is) at c.pause.ensures.entry)

pub returns-else-is_pause-clause-entry : goal.returns-else-is_pause-clause-entry
returns-else-is_pause-clause-entry c =
    let k = c.self.inside in
    let h = alone-stands k.script k.history.items k.core k.out k.room _ c.self.invariant (rw (← c.self.view_is) at c.requires.mode) in
    let H = after k.script k.history.items in
    let qs = arrived k.script k.history.items in
    let is : c.slot_actor-actor.result ≡ slot_actor H qs c.args.slot =
    c.slot_actor-actor.ensures qs h.queues.queues ∙ ap (λ (U : State). slot_actor U qs c.args.slot) h.state in
    rw (← c.self.view_is, ← is) (rw (← c.self.view_is) at c.step.ensures.entry)
