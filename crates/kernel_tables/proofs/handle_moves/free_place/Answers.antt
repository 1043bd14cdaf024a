use Rattle.std.proofs.Common.{◌∙◌, List, set, sym, ap}
use Rattle.state_rows.specs.declared.handle_slot.HandleSlot.{HandleSlot}
use Rattle.state_rows.specs.HandleSlots.{slot_at}
use Rattle.machine.specs.Handles.{freed_slot}
use Rattle.kernel_tables.specs.StateOf.{slots_of}
use Rattle.kernel_tables.proofs.Slots.{slots_at, slots_freed, slots_put}
use Rattle.kernel_tables.proofs.handle_moves.free_place.Goals as goal

pub returns-then-at-len : goal.returns-then-at-len
returns-then-at-len c =
    let tables = c.args.tables.now in
    let k = c.args.owner.0 in
    let i = c.args.index in
    let T = c.get_mut-table.result.now in
    let at = slots_at tables k T c.get_mut-table.ensures.value in
    slots_put tables k c.remove.new.self
    ∙ (ap (set (slots_of tables) k) (ap (λ t. t.slots) c.remove.ensures.table
    ∙ slots_freed T i c.number_at.result c.number_at.ensures.place c.number_at.ensures.object)
    ∙ ap (λ (slots : List HandleSlot). set (slots_of tables) k (set slots i (freed_slot (slot_at slots i)))) (sym at))
