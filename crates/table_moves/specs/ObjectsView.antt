-- What a contract sees of the table of objects.
use Rattle.std.specs.Prelude.{ℕ, ◌<◌, Bool, List, Option, None, IsTrue, slice_index}
use Rattle.std.specs.List.{slice_index_or}
use Rattle.sym_base.specs.declared.number.ObjNo.{ObjNo}
use Rattle.state_rows.specs.declared.object.ObjectRow.{ObjectRow}
use Rattle.objects.specs.Rows.{is_there}
use Rattle.table_moves.specs.Notes.{Notes}

-- the row of each number, None where no unswept object has it; how many objects were made; whether numbers are used again; the words that count
-- the references; the counts by number; and of these words the notes
pub record ObjectsView (W : Type 0) : Type 0 where
  pub rows : List (Option ObjectRow)
  pub made : ℕ
  pub reuse : Bool
  pub words : W
  pub counts : List ℕ
  pub notes : Notes

-- an object isn't swept
abbrev pub IsThere : Option ObjectRow → Type 0
IsThere row = IsTrue (is_there row)

-- an object that isn't swept and has references, so many that one more may come
pub record IsHeld {W : Type 0} (objects : ObjectsView W) (o : ObjNo) : Type 0 where
  pub there : IsThere (slice_index_or objects.rows o.0 None)
  pub known : 0 < slice_index objects.counts o.0
  pub few : slice_index objects.counts o.0 < 2147483648
