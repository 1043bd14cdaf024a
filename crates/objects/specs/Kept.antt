-- What the table of objects keeps.
use Rattle.std.specs.Prelude.{◌≡◌, ℕ, ◌<◌, ◌≤◌, Bool, true, false, is_none, if◌then◌else◌, List, Option, Some, None, IsTrue, length, slice_index}
use Rattle.ref_words.specs.declared.answer.Stage.TheVariants.{InUse, Gone}
use Rattle.ref_words.specs.Words.{Words, own_at, stage_at, IsFresh}
use Rattle.sym_base.specs.declared.limits.TheConstants.Limits.{OBJECTS}
use Rattle.sym_base.specs.declared.kind.Kind.{Kind}
use Rattle.state_rows.specs.declared.object.ObjectRow.{ObjectRow}
use Rattle.objects.specs.Bits.{bit_of}
use Rattle.objects.specs.Rows.{row_at}
use Rattle.state_rows.specs.ObjectRows.{is_session}
use Rattle.state_rows.specs.ObjectRows.{has_name}

-- The count of an object is that of its place, 0 where it is dead, and a number without one counts nothing; each making's number is kept by
-- its place, and so no two objects have one place; a place beyond the makings is fresh, that of an object with references left is in use,
-- and every other is gone; where numbers aren't used again each is its place; a number's bit tells whether it is free; and names are unique
-- among the unswept objects of a kind.
pub record AreKept (rows : List (Option ObjectRow)) (counts : List ℕ) (numbers : List ℕ) (reuse : Bool) (free : List ℕ) (w : Words) : Type 0 where
  pub sized : length counts ≡ OBJECTS
  pub limited : length rows ≤ OBJECTS
  pub counted : (k : ℕ) (row : ObjectRow) → row_at rows k ≡ Some row → slice_index counts k ≡ own_at w row.place
  pub uncounted : (k : ℕ) → row_at rows k ≡ None → slice_index counts k ≡ 0
  pub spent : (k : ℕ) (row : ObjectRow) → row_at rows k ≡ Some row → row.dead ≡ true → slice_index counts k ≡ 0
  pub few : length w.own ≤ 4294967295
  pub long : length rows ≤ length numbers
  pub placed : length numbers ≤ length w.own
  pub below : (k : ℕ) (row : ObjectRow) → row_at rows k ≡ Some row → row.place < length numbers
  pub numbered : (k : ℕ) (row : ObjectRow) → row_at rows k ≡ Some row → slice_index numbers row.place ≡ k
  pub fresh : (p : ℕ) → length numbers ≤ p → p < length w.own → IsFresh w p
  pub in_use : (k : ℕ) (row : ObjectRow) → row_at rows k ≡ Some row → row.dead ≡ false → stage_at w row.place ≡ InUse
  pub gone : (p : ℕ) → p < length numbers → ((k : ℕ) (row : ObjectRow) → row_at rows k ≡ Some row → row.dead ≡ false → row.place ≡ p → ⊥) → stage_at w p ≡ Gone
  pub makings : reuse ≡ false → length numbers ≡ length rows
  pub in_order : reuse ≡ false → (k : ℕ) (row : ObjectRow) → row_at rows k ≡ Some row → row.place ≡ k
  pub marked : (k : ℕ) → k < OBJECTS → bit_of free k ≡ (if is_none (row_at rows k) then 1 else 0)
  pub unique : (p q : ℕ) (kind : Kind) (name : List ℕ) → is_session kind ≡ false
      → IsTrue (has_name kind name (row_at rows p)) → IsTrue (has_name kind name (row_at rows q)) → p ≡ q
