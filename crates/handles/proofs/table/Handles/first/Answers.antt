use Rattle.std.proofs.Common.{◌≡◌, ◌<◌, ◌∙◌, Some, ap, arith, length, sym}
use Rattle.std.proofs.lemmas.List.{get_or_read}
use Rattle.state_rows.specs.declared.handle_slot.HandleSlot.{HandleSlot}
use Rattle.state_rows.specs.HandleSlots.{fresh_slot, slot_at}
use Rattle.handles.specs.HandleTable.{HandleTable}
use Rattle.handles.specs.Used.{first_used}
use Rattle.handles.proofs.Places.{first_used_marked, first_used_none}
use Rattle.handles.proofs.table.Handles.first.Goals as goal

pub returns-then-place-eq-HANDLES : goal.returns-then-place-eq-HANDLES
returns-then-place-eq-HANDLES c =
    let inside = c.self.inside in
    let none = first_used_none inside.slots.items inside.free.words c.self.invariant (λ i low. c.least_taken-place.ensures.below i (omega arith)) in
    sym (sym (ap (λ (t : HandleTable). first_used 0 t.slots) c.self.view_is) ∙ none)

pub returns : goal.returns
returns c =
    let inside = c.self.inside in
    let slots = inside.slots.items in
    let place = c.least_taken-place.result in
    let low : place < 256 = omega arith in
    let within : place < length slots = omega (arith, c.self.invariant.table.size) in
    let read = get_or_read slots place c.index.result.now within c.index.ensures fresh_slot in
    let stands : (slot_at slots place).object ≡ Some c.in_ok-object.object = sym (ap (λ (slot : HandleSlot). slot.object) read) ∙ c.in_ok-object.was in
    let first = first_used_marked slots inside.free.words place c.in_ok-object.object c.self.invariant low c.least_taken-place.ensures.below stands in
    sym (sym (ap (λ (t : HandleTable). first_used 0 t.slots) c.self.view_is) ∙ first)
