-- What contracts see of a handle table.
use Rattle.std.specs.Prelude.{Bool, List}
use Rattle.state_rows.specs.declared.handle_slot.HandleSlot.{HandleSlot}

-- whether it is a thread's table, and its places in order of their indices
pub record HandleTable : Type 0 where
  pub local : Bool
  pub slots : List HandleSlot
