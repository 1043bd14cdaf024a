-- Rows of objects by number, and the names that they keep.
use Rattle.std.specs.Prelude.{◌≡◌, ℕ, Bool, false, true, not, if◌then◌else◌, List, [], Option, Some, None, IsTrue, slice_index_or}
use Rattle.state_rows.specs.ObjectRows.{is_session, place_of}
use Rattle.sym_base.specs.declared.kind.Kind.{Kind}
use Rattle.state_rows.specs.declared.object.ObjectRow.{ObjectRow}

-- the name that an object of a kind keeps: a session has none
abbrev pub kept_name : Kind → List ℕ → List ℕ
kept_name kind name = if is_session kind then [] else name

-- the row of a number, none where the object isn't made or is swept
abbrev pub row_at : List (Option ObjectRow) → ℕ → Option ObjectRow
row_at rows o = slice_index_or rows o None

-- whether an object is made and isn't swept
abbrev pub is_there : Option ObjectRow → Bool
is_there None = false
is_there (Some row) = true

-- whether an object isn't swept and its last reference stands
abbrev pub is_alive : Option ObjectRow → Bool
is_alive None = false
is_alive (Some row) = not row.dead

-- an object of this place isn't swept, and its last reference stands
abbrev pub HasAlive : List (Option ObjectRow) → ℕ → Type 0
HasAlive rows p = (o : ℕ) × IsTrue (is_alive (row_at rows o)) × (place_of (row_at rows o) ≡ p)

-- if an object of this place stands, it has this number
abbrev pub StandsAt : List (Option ObjectRow) → ℕ → ℕ → Type 0
StandsAt rows p o = (k : ℕ) (row : ObjectRow) → row_at rows k ≡ Some row → row.place ≡ p → k ≡ o
