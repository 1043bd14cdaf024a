use Rattle.std.proofs.Common.{◌≡◌, ℕ, ◌<◌, List, Option, ap, sym, ◌∙◌, arith, length, is_some, true}
use Rattle.std.proofs.lemmas.List.{get_or_read}
use Rattle.sym_base.specs.declared.number.ObjNo.{ObjNo}
use Rattle.state_rows.specs.declared.handle_slot.HandleSlot.{HandleSlot}
use Rattle.state_rows.specs.HandleSlots.{look, fresh_slot}
use Rattle.handles.proofs.Places.{kept_set, look_inside}
use Rattle.handles.proofs.table.Handles.remove.Goals as goal

pub invariant_of-self : goal.invariant_of-self
invariant_of-self c =
    let inside = c.self.inside in
    let slots = inside.slots.items in
    let index : ℕ = c.index_of-index.result in
    let some : is_some (look inside.local slots c.args.handle) ≡ true =
    ap (λ (object : Option ObjNo). is_some object)
    (sym (c.look-object.ensures ∙ ap (λ (s : List HandleSlot). look inside.local s c.args.handle)
    c.deref.ensures.value))
    ∙ sym c.if-is_some.ensures in
    let low : index < length slots = rw c.index_of-index.ensures (look_inside inside.local slots c.args.handle some) in
    let read = get_or_read slots index c.index_mut.result.now low c.index_mut.ensures.value fresh_slot in
    let same = ap (λ (slot : HandleSlot). slot.instance) read in
    let few = c.self.invariant.table.instances index in
    kept_set slots inside.free.words c.give.new.self.words index _ c.self.invariant
    (omega (arith, low, c.self.invariant.table.size)) (omega (arith, same, few))
    (λ o is. absurd (cc)) c.give.ensures.free c.give.ensures.others
