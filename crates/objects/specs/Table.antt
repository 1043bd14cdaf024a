-- What contracts see of the table of objects.
use Rattle.std.specs.Prelude.{ℕ, Bool, List, Option}
use Rattle.state_rows.specs.declared.object.ObjectRow.{ObjectRow}

-- the rows by number, of which the swept ones are none; the references that the kernel itself counted, by number; how many
-- objects were made; whether the numbers of swept ones are used again; and the words that count the references, by the places of
-- objects
pub record Table (W : Type 0) : Type 0 where
  pub rows : List (Option ObjectRow)
  pub counts : List ℕ
  pub made : ℕ
  pub reuse : Bool
  pub words : W
