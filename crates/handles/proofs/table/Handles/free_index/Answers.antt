use Rattle.std.proofs.Common.{ap, sym, ◌∙◌}
use Rattle.handles.specs.HandleTable.{HandleTable}
use Rattle.state_rows.specs.HandleSlots.{free_index}
use Rattle.handles.proofs.Places.{free_index_marked}
use Rattle.handles.proofs.table.Handles.free_index.Goals as goal

pub returns-clause-least : goal.returns-clause-least
returns-clause-least c =
    let inside = c.self.inside in
    let least = free_index_marked inside.slots.items inside.free.words c.least.result c.self.invariant
    c.least.ensures.within c.least.ensures.free c.least.ensures.below in
    sym least ∙ ap (λ (t : HandleTable). free_index t.slots) c.self.view_is
