-- Handle tables as the lists of their places.
use Rattle.std.proofs.Common.{◌≡◌, ◌∙◌, inl, inr, ℕ, zero, suc, ◌<◌, ◌≤◌, List, [], ◌∷◌, length, get_or, set, refl, sym, ap, arith}
use Rattle.std.specs.Prelude.{◌==◌, ◌+◌, IfSome, is_none, is_some, if◌then◌else◌, Bool, true, false, Option, Some, None, slice_get}
use Rattle.std.proofs.lemmas.Bool.{cases_lt, ne_eqb}
use Rattle.std.proofs.lemmas.List.{get_or_past, map-set, set-get_or}
use Rattle.sym_base.specs.declared.number.ObjNo.{ObjNo}
use Rattle.state_rows.specs.declared.handle_slot.HandleSlot.{HandleSlot}
use Rattle.state_rows.specs.HandleNumbers.{handle_number, index_of}
use Rattle.state_rows.specs.HandleSlots.{fresh_slot, free_index, is_full, look, object_of, slot_at}
use Rattle.handles.specs.HandleTable.{HandleTable}
use Rattle.handles.specs.Used.{first_used as table_first, used_or}
use Rattle.handles.specs.Table.{slots_added, slots_removed, table_added, table_removed}
use Rattle.machine.specs.Handles.{taken_slot, freed_slot}
use Rattle.machine.specs.Holdings.{first_here, first_used}
use Rattle.kernel_tables.specs.StateOf.{slots_of}

-- a table changes in its places
pub slots_put : (tables : List HandleTable) (k : ℕ) (T : HandleTable) → slots_of (set tables k T) ≡ set (slots_of tables) k T.slots
slots_put tables k T = map-set (λ (t : HandleTable). t.slots) tables k T

pub slots_at : (tables : List HandleTable) (k : ℕ) (T : HandleTable) → slice_get tables k ≡ Some T → get_or (slots_of tables) k [] ≡ T.slots
slots_at [] zero T is = absurd (cc)
slots_at [] (suc k) T is = absurd (cc)
slots_at (x ∷ xs) zero T is = let same : x ≡ T = cc in ap (λ (t : HandleTable). t.slots) same
slots_at (x ∷ xs) (suc k) T is = slots_at xs k T is

-- the least free place takes an object
pub slots_taken : (T : HandleTable) (o : ObjNo) (i : ℕ) → i < length T.slots → i ≡ free_index T.slots
    → (table_added T o).slots ≡ set T.slots i (taken_slot o (slot_at T.slots i))
slots_taken T o i inside least =
    let some_free : is_full T.slots ≡ false = ne_eqb (free_index T.slots) (length T.slots) (λ same. omega (arith, same, inside, least)) in
    ap (λ (full : Bool). if full then T.slots else slots_added T.slots o) some_free
    ∙ ap (λ (n : ℕ). set T.slots n (taken_slot o (slot_at T.slots n))) (sym least)

-- the place of a number is freed
pub slots_freed : (T : HandleTable) (i h : ℕ) → index_of h ≡ i → look T.local T.slots h ≡ (slot_at T.slots i).object
    → (table_removed T h).slots ≡ set T.slots i (freed_slot (slot_at T.slots i))
slots_freed T i h at found = by_object (slot_at T.slots i).object refl
  where
    by_object : (x : Option ObjNo) → (slot_at T.slots i).object ≡ x → (table_removed T h).slots ≡ set T.slots i (freed_slot (slot_at T.slots i))
    by_object None is =
        let free : HandleSlot = slot_at T.slots i in
        let same : freed_slot free ≡ free = ap (λ (x : Option ObjNo). let slot : HandleSlot = record free { object = x } in slot) (sym is) in
        ap (λ (x : Option ObjNo). if is_some x then slots_removed T.slots (index_of h) else T.slots) (found ∙ is)
        ∙ (sym (set-get_or T.slots i fresh_slot) ∙ ap (set T.slots i) (sym same))
    by_object (Some o) is =
        ap (λ (x : Option ObjNo). if is_some x then slots_removed T.slots (index_of h) else T.slots) (found ∙ is) ∙ ap (slots_removed T.slots) at

-- a handle that names an object has an index of the table
pub look_inside : (local : Bool) (slots : List HandleSlot) (h : ℕ) (o : ObjNo) → look local slots h ≡ Some o → index_of h < length slots
look_inside local slots h o is = elim (cases_lt (index_of h) (length slots)) [
  | inl lt ↦ lt
  | inr past ↦
      let fresh : slot_at slots (index_of h) ≡ fresh_slot = get_or_past slots (index_of h) fresh_slot past in
      let none : look local slots h ≡ None = ap (λ (slot : HandleSlot). object_of local slot h) fresh ∙ by (handle_number local (index_of h) 0 == h) in
      absurd (cc)
]
  where
    by : (b : Bool) → (if b then (let x : Option ObjNo = None in x) else None) ≡ None
    by true = refl
    by false = refl

pub index_few : (local : Bool) (slots : List HandleSlot) (h : ℕ) (found : Option ObjNo) → found ≡ look local slots h
    → length slots ≤ 256 → IfSome found (λ o. index_of h < 256)
index_few local slots h None is few = tt
index_few local slots h (Some o) is few = let lt = look_inside local slots h o (sym is) in omega arith

-- the least free place isn't past the end
pub free_inside : (slots : List HandleSlot) → free_index slots ≤ length slots
free_inside [] = omega arith
free_inside (slot ∷ slots) = by (is_none slot.object) (free_inside slots)
  where
    by : (free : Bool) → free_index slots ≤ length slots → (if free then 0 else free_index slots + 1) ≤ length (slot ∷ slots)
    by true later = omega arith
    by false later = omega arith

-- the first place in use, for a table and for the definitions
pub first_same : (i : ℕ) (slots : List HandleSlot) → table_first i slots ≡ first_used i slots
first_same i [] = refl
first_same i (slot ∷ slots) = by slot.object (first_same (i + 1) slots)
  where
    by : (object : Option ObjNo) → table_first (i + 1) slots ≡ first_used (i + 1) slots
        → used_or i object (table_first (i + 1) slots) ≡ first_here i object (first_used (i + 1) slots)
    by None later = later
    by (Some o) later = refl
