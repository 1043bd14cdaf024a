-- Rows of objects: none where the object isn't made or is swept.
use Rattle.std.specs.Prelude.{◌+◌, nat_lt, if◌then◌else◌, Bool, false, true, not, ◌&&◌, ◌==◌, List, [], ◌∷◌, ◌++◌, length, slice_set, ℕ, Option, Some, None, position}
use Rattle.std.specs.List.{list_any}
use Rattle.sym_base.specs.declared.number.ObjNo.{ObjNo}
use Rattle.std.specs.Str.{bytes_eq}
use Rattle.sym_base.specs.KindNumber.{kind_number}
use Rattle.sym_base.specs.declared.kind.Kind.{Kind}
use Rattle.sym_base.specs.declared.kind.Kind.TheVariants.{Session}
use Rattle.state_rows.specs.declared.object.ObjectRow.{ObjectRow}

-- whether a kind is that of sessions, which have no names
abbrev pub is_session : Kind → Bool
is_session kind = kind_number kind == kind_number Session

-- whether an object isn't swept and has this kind and name
abbrev pub has_name : Kind → List ℕ → Option ObjectRow → Bool
has_name kind name None = false
has_name kind name (Some row) = kind_number row.kind == kind_number kind && bytes_eq row.name name

-- whether its last reference is gone
abbrev pub is_dead_row : Option ObjectRow → Bool
is_dead_row None = false
is_dead_row (Some row) = row.dead

-- the row of an object whose last reference is gone
abbrev pub dead_row : Option ObjectRow → Option ObjectRow
dead_row None = None
dead_row (Some row) = Some (record row { dead = true })

-- how many objects were made before it, 0 where there is none
abbrev pub place_of : Option ObjectRow → ℕ
place_of None = 0
place_of (Some row) = row.place

-- the least number without an object
abbrev pub first_free : List (Option ObjectRow) → ℕ
first_free [] = 0
first_free (None ∷ rest) = 0
first_free (Some row ∷ rest) = 1 + first_free rest

-- the number of the next object: the least without one where numbers are used again, else the next
abbrev pub next_number : Bool → List (Option ObjectRow) → ℕ
next_number reuse rows = if reuse then first_free rows else length rows

-- the rows with that of a new object at a number that has none, or that comes next
abbrev pub with_object : List (Option ObjectRow) → ℕ → ObjectRow → List (Option ObjectRow)
with_object rows n row = if nat_lt n (length rows) then slice_set rows n (Some row) else rows ++ Some row ∷ []

-- whether an unswept object has the kind and the name, which no session has
abbrev pub is_taken : Kind → List ℕ → List (Option ObjectRow) → Bool
is_taken kind name rows = not (is_session kind) && list_any (has_name kind name) rows

-- the number of the unswept object of this kind and name
abbrev pub numbered : Option ℕ → Option ObjNo
numbered None = None
numbered (Some n) = Some (record { 0 = n })

abbrev pub named : Kind → List ℕ → List (Option ObjectRow) → Option ObjNo
named kind name rows = numbered (position (has_name kind name) rows)
