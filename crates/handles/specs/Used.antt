-- The places of a handle table that are in use.
use Rattle.std.specs.Prelude.{ℕ, ◌+◌, List, [], ◌∷◌, drop, Option, Some, None}
use Rattle.sym_base.specs.declared.number.ObjNo.{ObjNo}
use Rattle.state_rows.specs.declared.handle_slot.HandleSlot.{HandleSlot}

-- the place of this index where it has an object, else what the later places give
abbrev pub used_or : ℕ → Option ObjNo → Option (ℕ × ObjNo) → Option (ℕ × ObjNo)
used_or index (Some object) later = Some (index, object)
used_or index None later = later

-- the first place in use and its object, the first place of the list having this index
abbrev pub first_used : ℕ → List HandleSlot → Option (ℕ × ObjNo)
first_used index [] = None
first_used index (slot ∷ later) = used_or index slot.object (first_used (index + 1) later)

-- the least index in use from one on, and the object there
abbrev pub next_used : List HandleSlot → ℕ → Option (ℕ × ObjNo)
next_used slots from = first_used from (drop from slots)
