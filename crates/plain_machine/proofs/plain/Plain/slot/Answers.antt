use Rattle.std.proofs.Common.{Box, Global, ◌≡◌, ℕ, ◌+◌, ◌<◌, ◌∙◌, false, List, [], ◌∷◌, ◌++◌, length, ap, subst, sym}
use Rattle.sym_base.specs.declared.number.ObjNo.{ObjNo}
use Rattle.entry_log.specs.declared.entry.Actor.{Actor}
use Rattle.entry_log.specs.declared.entry.Entry.{Entry}
use Rattle.script_types.proofs.ShapeLaws.{formed_is_shaped}
use Rattle.plain_machine.specs.Allowed.{AllowsAction}
use Rattle.plain_machine.specs.PlainView.{PlainView}
use Rattle.machine.specs.Arrived.{arrived, arrived_next}
use Rattle.machine.specs.History.{after, entry_by, next}
use Rattle.machine.specs.Run.{slot_actor}
use Rattle.machine.specs.Slots.{IsDeclared}
use Rattle.machine.specs.declared.state.State.{State}
use Rattle.plain_machine.proofs.Steps.{allows_action, few_made, formed_plain, plain_goes_on, slot_told, slot_whole}
use Rattle.plain_machine.proofs.plain.Plain.slot.Goals as goal

pub acted-requires-clause-shaped : goal.acted-requires-clause-shaped
acted-requires-clause-shaped c = formed_is_shaped c.self.inside.script c.self.invariant.valid

pub acted-requires-clause-allowed : goal.acted-requires-clause-allowed
acted-requires-clause-allowed c =
    let plain = c.self.inside in
    let few = subst (λ (v : PlainView). length v.history < 4294967295) (sym c.self.view_is) c.requires.few in
    let copy = c.deref_mut.ensures.value ∙ (c.in_ok-state.ensures.ok ∙ (c.in_ok-copied.ensures ∙ c.deref-2.ensures)) in
    subst (AllowsAction plain.script) (sym copy)
    (allows_action plain.script plain.state.value (formed_is_shaped plain.script c.self.invariant.valid)
    (formed_plain plain.script plain.history plain.state.value plain.ready c.self.invariant).rows
    (few_made plain.script plain.history plain.state.value plain.ready c.self.invariant few))

pub invariant_of-self-2 : goal.invariant_of-self-2
invariant_of-self-2 c =
    let plain = c.self.inside in
    let S = plain.state.value in
    let slot = c.args.slot in
    let declared = subst (λ (v : PlainView). IsDeclared v.script slot) (sym c.self.view_is) c.requires.declared in
    let whole : S.mode.shared ≡ false = ap (λ (v : PlainView). v.shared) c.self.view_is ∙ c.requires.whole in
    let actor : c.slot_actor-actor.result ≡ slot_actor S plain.ready slot =
    c.slot_actor-actor.ensures ∙ (ap (λ (qs : List ObjNo). slot_actor c.deref.result.now qs slot) c.as_slice.ensures
    ∙ ap (λ (s : State). slot_actor s plain.ready slot) c.deref.ensures) in
    let copy = c.deref_mut.ensures.value ∙ (c.in_ok-state.ensures.ok ∙ (c.in_ok-copied.ensures ∙ c.deref-2.ensures)) in
    let made = c.in_ok-ready.ensures in
    plain_goes_on plain.script plain.history c.push.new.self S c.set_state.new.state.value plain.ready c.set_state.new.ready
    slot (c.len.result + 1) c.in_ok-ready.entry declared c.self.invariant whole (ap (λ (n : ℕ). n + 1) c.len.ensures)
    (ap (λ (b : Box State Global). b.value) c.set_state.ensures.state ∙ (made.state
    ∙ (ap (λ (s : State). next plain.script s c.slot_actor-actor.result) copy
    ∙ ap (next plain.script S) actor)))
    (c.set_state.ensures.ready ∙ (ap (λ (x : List ObjNo × Entry). x.0) made.told
    ∙ (ap (λ (s : State). arrived_next plain.script s c.slot_actor-actor.result plain.ready) copy
    ∙ ap (λ (a : Actor). arrived_next plain.script S a plain.ready) actor)))
    (ap (λ (x : List ObjNo × Entry). x.1) made.told
    ∙ (ap (λ (s : State). entry_by plain.script s (c.len.result + 1) c.slot_actor-actor.result) copy
    ∙ ap (entry_by plain.script S (c.len.result + 1)) actor)) c.in_ok-push.ensures.ok

pub returns-clause-whole : goal.returns-clause-whole
returns-clause-whole c =
    let plain = c.self.inside in
    let whole : plain.state.value.mode.shared ≡ false = ap (λ (v : PlainView). v.shared) c.self.view_is ∙ c.requires.whole in
    let copy = c.deref_mut.ensures.value ∙ (c.in_ok-state.ensures.ok ∙ (c.in_ok-copied.ensures ∙ c.deref-2.ensures)) in
    slot_whole plain.script plain.state.value c.set_state.new.state.value c.slot_actor-actor.result whole
    (ap (λ (b : Box State Global). b.value) c.set_state.ensures.state ∙ (c.in_ok-ready.ensures.state
    ∙ ap (λ (s : State). next plain.script s c.slot_actor-actor.result) copy))

pub returns-clause-ok : goal.returns-clause-ok
returns-clause-ok c =
    let plain = c.self.inside in
    let S = plain.state.value in
    let slot = c.args.slot in
    let place = c.len.result + 1 in
    let whole : S.mode.shared ≡ false = ap (λ (v : PlainView). v.shared) c.self.view_is ∙ c.requires.whole in
    let actor : c.slot_actor-actor.result ≡ slot_actor S plain.ready slot =
    c.slot_actor-actor.ensures ∙ (ap (λ (qs : List ObjNo). slot_actor c.deref.result.now qs slot) c.as_slice.ensures
    ∙ ap (λ (s : State). slot_actor s plain.ready slot) c.deref.ensures) in
    let copy = c.deref_mut.ensures.value ∙ (c.in_ok-state.ensures.ok ∙ (c.in_ok-copied.ensures ∙ c.deref-2.ensures)) in
    let told = slot_told plain.script plain.history S plain.ready slot place c.in_ok-ready.entry c.self.invariant whole (ap (λ (n : ℕ). n + 1) c.len.ensures)
    (ap (λ (x : List ObjNo × Entry). x.1) c.in_ok-ready.ensures.told
    ∙ (ap (λ (s : State). entry_by plain.script s place c.slot_actor-actor.result) copy
    ∙ ap (entry_by plain.script S place) actor)) in
    subst (λ (v : PlainView). c.push.new.self
    ≡ v.history ++ entry_by v.script (after v.script v.history) (length v.history + 1)
    (slot_actor (after v.script v.history) (arrived v.script v.history) slot) ∷ []) c.self.view_is
    (c.in_ok-push.ensures.ok ∙ ap (λ (x : Entry). plain.history ++ x ∷ []) told)
