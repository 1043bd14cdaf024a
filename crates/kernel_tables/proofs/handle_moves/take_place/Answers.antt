use Rattle.std.proofs.Common.{◌∙◌, ◌<◌, List, length, refl, set, subst, sym, ap}
use Rattle.state_rows.specs.declared.handle_slot.HandleSlot.{HandleSlot}
use Rattle.state_rows.specs.HandleSlots.{free_index, slot_at}
use Rattle.machine.specs.Handles.{taken_slot}
use Rattle.kernel_tables.specs.StateOf.{slots_of}
use Rattle.kernel_tables.proofs.Slots.{slots_at, slots_put, slots_taken}
use Rattle.kernel_tables.proofs.handle_moves.take_place.Goals as goal

pub returns-then-at-len : goal.returns-then-at-len
returns-then-at-len c =
    let tables = c.args.tables.now in
    let k = c.args.owner.0 in
    let o = c.args.object in
    let T = c.get_mut.result.now in
    let at = slots_at tables k T c.get_mut.ensures.value in
    let inside : free_index T.slots < length T.slots = subst (λ (slots : List HandleSlot). free_index slots < length slots) at c.requires in
    slots_put tables k c.add.new.self ∙ (ap (set (slots_of tables) k) (ap (λ t. t.slots) c.add.ensures.table ∙ slots_taken T o (free_index T.slots) inside refl)
    ∙ ap (λ (slots : List HandleSlot). set (slots_of tables) k (set slots (free_index slots) (taken_slot o (slot_at slots (free_index slots))))) (sym at))
