use Rattle.std.proofs.Common.{List, ap}
use Rattle.handles.specs.HandleTable.{HandleTable}
use Rattle.state_rows.specs.declared.handle_slot.HandleSlot.{HandleSlot}
use Rattle.handles.proofs.Places.{kept_fresh}
use Rattle.handles.proofs.table.Handles.new.Goals as goal

pub invariant_of-result : goal.invariant_of-result
invariant_of-result c =
    let made = c.in_ok-vec.ensures.items_if_clones_equal (λ y e. e) in
    rw made (kept_fresh c.all.result.words c.all.ensures)

pub returns : goal.returns
returns c =
    let made = c.in_ok-vec.ensures.items_if_clones_equal (λ y e. e) in
    let table : List HandleSlot → HandleTable = λ slots. record { local = c.args.local; slots = slots } in
    ap table made
