-- Free places and places in use of a handle table.
use Rattle.std.proofs.Common.{◌≡◌, ◌≢◌, ℕ, zero, suc, ◌+◌, ◌==◌, ◌<◌, ◌≤◌, Bool, true, false, cond, List, [], ◌∷◌, drop, length, set, refl, ap, ◌∙◌, sym, arith, inl, inr, Option, Some, None, is_none, is_some, add-one}
use Rattle.sym_base.specs.declared.number.ObjNo.{ObjNo}
use Rattle.state_rows.specs.declared.handle_slot.HandleSlot.{HandleSlot}
use Rattle.std.proofs.Common.{get_or-set_same, get_or-set_other, length-set, replicate, eq-eqb}
use Rattle.std.proofs.lemmas.Bool.{cases_eq, cases_lt}
use Rattle.std.proofs.lemmas.List.{drop_all, drop_more, length-replicate, get_or_past}
use Rattle.std.proofs.lemmas.List.Sums.{sum_by-cons, count_by-le-length}
use Rattle.handles.specs.Bits.{bit_of}
use Rattle.handles.specs.Kept.{AreKept}
use Rattle.handles.specs.Used.{first_used, used_or}
use Rattle.state_rows.specs.HandleSlots.{fresh_slot, slot_at, free_index, is_full, handle_count, object_of, look}
use Rattle.state_rows.specs.HandleNumbers.{handle_number, index_of}

free_index_step : (object : Option ObjNo) (rest : ℕ) → is_none object ≡ false → cond (is_none object) 0 (rest + 1) ≡ rest + 1
free_index_step None rest h = absurd (cc)
free_index_step (Some o) rest h = refl

free_index_stop : (object : Option ObjNo) (rest : ℕ) → is_none object ≡ true → cond (is_none object) 0 (rest + 1) ≡ 0
free_index_stop None rest h = refl
free_index_stop (Some o) rest h = absurd (cc)

-- the place that is free while those below it are in use is the least free one
pub free_index_is : (slots : List HandleSlot) (n : ℕ) → n ≤ length slots
    → ((i : ℕ) → i < n → is_none (slot_at slots i).object ≡ false)
    → (n < length slots → is_none (slot_at slots n).object ≡ true) → free_index slots ≡ n
free_index_is [] n low below here = omega arith
free_index_is (slot ∷ slots) zero low below here = free_index_stop slot.object (free_index slots) (here (omega arith))
free_index_is (slot ∷ slots) (suc n) low below here =
    let rest : free_index slots ≡ n = free_index_is slots n (omega arith) (λ i h. below (suc i) (omega arith)) (λ h. here (omega arith)) in
    rw (free_index_step slot.object (free_index slots) (below 0 (omega arith)), rest, add-one) refl

marked_used : (object : Option ObjNo) (b : ℕ) → b ≡ cond (is_none object) 1 0 → b ≡ 0 → is_none object ≡ false
marked_used None b h e = absurd (omega arith)
marked_used (Some o) b h e = refl

marked_free : (object : Option ObjNo) (b : ℕ) → b ≡ cond (is_none object) 1 0 → b ≡ 1 → is_none object ≡ true
marked_free None b h e = refl
marked_free (Some o) b h e = absurd (omega arith)

-- the least place whose bit is set is the least free one
pub free_index_marked : (slots : List HandleSlot) (words : List ℕ) (n : ℕ) → AreKept slots words → n ≤ 256
    → (n < 256 → bit_of words n ≡ 1) → ((i : ℕ) → i < n → bit_of words i ≡ 0) → free_index slots ≡ n
free_index_marked slots words n kept low here below =
    let size = kept.table.size in
    free_index_is slots n (omega arith)
    (λ i h. marked_used (slot_at slots i).object _ (kept.marked i (omega arith)) (below i h))
    (λ h. marked_free (slot_at slots n).object _ (kept.marked n (omega arith)) (here (omega arith)))

-- one place is written, and its bit says whether it is free
pub kept_set : (slots : List HandleSlot) (words new : List ℕ) (i : ℕ) (slot : HandleSlot) → AreKept slots words
    → i < 256 → slot.instance ≤ 16383 → ((o : ObjNo) → slot.object ≡ Some o → 1 ≤ slot.instance)
    → bit_of new i ≡ cond (is_none slot.object) 1 0 → ((k : ℕ) → k < 256 → k ≢ i → bit_of new k ≡ bit_of words k)
    → AreKept (set slots i slot) new
kept_set slots words new i slot kept low few counted here others =
    let inside : i < length slots = omega (arith, kept.table.size) in
    let at : slot_at (set slots i slot) i ≡ slot = get_or-set_same slots i slot fresh_slot inside in
    let off : (k : ℕ) → k ≢ i → slot_at (set slots i slot) k ≡ slot_at slots k = λ k apart. get_or-set_other slots i k slot fresh_slot apart in
    record {
      table = record {
        size = length-set slots i slot ∙ kept.table.size;
        instances = λ k. elim (cases_eq k i) [
          | inl same ↦ rw (same, at) few
          | inr apart ↦ rw (off k apart) (kept.table.instances k)
        ];
        counted = λ k o is. elim (cases_eq k i) [
          | inl same ↦ rw (same, at) (counted o (rw (same, at) at is))
          | inr apart ↦ rw (off k apart) (kept.table.counted k o (rw (off k apart) at is))
        ];
      };
      marked = λ k h. elim (cases_eq k i) [
        | inl same ↦ rw (same, at) here
        | inr apart ↦ rw (off k apart) (others k h apart ∙ kept.marked k h)
      ];
    }

-- each place of a new table was never taken
pub fresh_at : (n i : ℕ) → slot_at (replicate n fresh_slot) i ≡ fresh_slot
fresh_at zero i = refl
fresh_at (suc n) zero = refl
fresh_at (suc n) (suc i) = fresh_at n i

pub kept_fresh : (words : List ℕ) → ((i : ℕ) → i < 256 → bit_of words i ≡ 1) → AreKept (replicate 256 fresh_slot) words
kept_fresh words free =
    record {
      table = record {
        size = length-replicate 256 fresh_slot;
        instances = λ i. rw (fresh_at 256 i) (omega arith);
        counted = λ i o is. absurd (cc (rw (fresh_at 256 i) at is));
      };
      marked = λ i h. rw (fresh_at 256 i) (free i h);
    }

-- one handle more where the place is in use
count_one : (slot : HandleSlot) (slots : List HandleSlot) → handle_count (slot ∷ slots) ≡ cond (is_some slot.object) 1 0 + handle_count slots
count_one slot slots = sum_by-cons (λ (x : HandleSlot). cond (is_some x.object) 1 0) slot slots

count_full_step : (object : Option ObjNo) (free n count : ℕ) → (free ≡ n → count ≡ n)
    → cond (is_none object) 0 (free + 1) ≡ suc n → cond (is_some object) 1 0 + count ≡ suc n
count_full_step None free n count rest e = absurd (omega arith)
count_full_step (Some o) free n count rest e = omega (arith, rest (omega arith))

-- a table without a free place has as many handles as places
pub count_full : (slots : List HandleSlot) → free_index slots ≡ length slots → handle_count slots ≡ length slots
count_full [] e = refl
count_full (slot ∷ slots) e = count_one slot slots ∙ count_full_step slot.object (free_index slots) (length slots) (handle_count slots) (count_full slots) e

count_free_step : (object : Option ObjNo) (free n count : ℕ) → count ≤ n → (free < n → count < n)
    → cond (is_none object) 0 (free + 1) < suc n → cond (is_some object) 1 0 + count < suc n
count_free_step None free n count few rest h = omega arith
count_free_step (Some o) free n count few rest h = omega (arith, rest (omega arith))

-- and one with a free place has fewer
pub count_free : (slots : List HandleSlot) → free_index slots < length slots → handle_count slots < length slots
count_free [] h = h
count_free (slot ∷ slots) h =
    rw (count_one slot slots) (count_free_step slot.object (free_index slots) (length slots) (handle_count slots)
    (count_by-le-length (λ (x : HandleSlot). is_some x.object) slots) (count_free slots) h)

none_named : (b : Bool) → is_some {T = ObjNo} (cond b None None) ≡ true → ⊥
none_named true h = cc
none_named false h = cc

-- a handle that names an object has its index inside the table
pub look_inside : (local : Bool) (slots : List HandleSlot) (handle : ℕ) → is_some (look local slots handle) ≡ true → index_of handle < length slots
look_inside local slots handle some =
    elim (cases_lt (index_of handle) (length slots)) [
      | inl inside ↦ inside
      | inr past ↦
          let fresh : slot_at slots (index_of handle) ≡ fresh_slot = get_or_past slots (index_of handle) fresh_slot past in
          let none = ap (λ (slot : HandleSlot). is_some (object_of local slot handle)) fresh in
          absurd (none_named (handle_number local (index_of handle) 0 == handle) (sym none ∙ some))
    ]

named_step : (b : Bool) (object : Option ObjNo) (o : ObjNo) → cond b object None ≡ Some o → object ≡ Some o
named_step true object o e = e
named_step false object o e = absurd (cc)

-- the object that a handle names stands at its place
pub look_named : (local : Bool) (slots : List HandleSlot) (handle : ℕ) (o : ObjNo) → look local slots handle ≡ Some o
    → (slot_at slots (index_of handle)).object ≡ Some o
look_named local slots handle o e = named_step _ (slot_at slots (index_of handle)).object o e

-- the least free place is free, and inside a table that isn't full
free_index_free_step : (slot : HandleSlot) (slots : List HandleSlot) (object : Option ObjNo) → slot.object ≡ object
    → (slot_at slots (free_index slots)).object ≡ None
    → (slot_at (slot ∷ slots) (cond (is_none object) 0 (free_index slots + 1))).object ≡ None
free_index_free_step slot slots None e rest = e
free_index_free_step slot slots (Some o) e rest = rw add-one rest

pub free_index_free : (slots : List HandleSlot) → (slot_at slots (free_index slots)).object ≡ None
free_index_free [] = refl
free_index_free (slot ∷ slots) = free_index_free_step slot slots slot.object refl (free_index_free slots)

free_index_le_step : (object : Option ObjNo) (rest n : ℕ) → rest ≤ n → cond (is_none object) 0 (rest + 1) ≤ suc n
free_index_le_step None rest n h = omega arith
free_index_le_step (Some o) rest n h = omega arith

pub free_index_le : (slots : List HandleSlot) → free_index slots ≤ length slots
free_index_le [] = omega arith
free_index_le (slot ∷ slots) = free_index_le_step slot.object (free_index slots) (length slots) (free_index_le slots)

pub free_index_inside : (slots : List HandleSlot) → is_full slots ≡ false → free_index slots < length slots
free_index_inside slots room =
    let le = free_index_le slots in
    let apart : free_index slots ≢ length slots = λ e. cc (eq-eqb (free_index slots) (length slots) e) in
    omega arith

-- the index in a handle's number is the one that it was made with
pub index_of-handle_number : (local : Bool) (index instance : ℕ) → index < 65536 → index_of (handle_number local index instance) ≡ index
index_of-handle_number true index instance low = omega arith
index_of-handle_number false index instance low = omega arith

-- the places below one are free: what is used first is used from that one on
first_used_from : (k : ℕ) (slots : List HandleSlot) (n : ℕ) → n ≤ length slots
    → ((i : ℕ) → i < n → is_none (slot_at slots i).object ≡ true)
    → first_used k slots ≡ first_used (k + n) (drop n slots)
first_used_from k slots zero low below = ap (λ (j : ℕ). first_used j slots) (omega arith)
first_used_from k [] (suc n) low below = absurd (omega arith)
first_used_from k (slot ∷ slots) (suc n) low below =
    used_later k slot.object (first_used (k + 1) slots) (below 0 (omega arith))
    ∙ (first_used_from (k + 1) slots n (omega arith) (λ i h. below (suc i) (omega arith))
    ∙ ap (λ (j : ℕ). first_used j (drop n slots)) (omega arith))
  where
    used_later : (k : ℕ) (object : Option ObjNo) (later : Option (ℕ × ObjNo)) → is_none object ≡ true → used_or k object later ≡ later
    used_later k None later none = refl
    used_later k (Some o) later none = absurd (cc)

-- so none is used where each is free
pub first_used_none : (slots : List HandleSlot) (words : List ℕ) → AreKept slots words → ((i : ℕ) → i < 256 → bit_of words i ≡ 1) → first_used 0 slots ≡ None
first_used_none slots words kept below =
    let size = kept.table.size in
    first_used_from 0 slots 256 (omega arith) (λ i h. marked_free (slot_at slots i).object _ (kept.marked i h) (below i h))
    ∙ ap (λ (l : List HandleSlot). first_used 256 l) (drop_all 256 slots (omega arith))

-- and the least place whose bit is clear is the first in use
pub first_used_marked : (slots : List HandleSlot) (words : List ℕ) (n : ℕ) (o : ObjNo) → AreKept slots words → n < 256
    → ((i : ℕ) → i < n → bit_of words i ≡ 1) → (slot_at slots n).object ≡ Some o → first_used 0 slots ≡ Some (n, o)
first_used_marked slots words n o kept low below is =
    let size = kept.table.size in
    first_used_from 0 slots n (omega arith) (λ i h. marked_free (slot_at slots i).object _ (kept.marked i (omega arith)) (below i h))
    ∙ (ap (λ (k : ℕ). first_used k (drop n slots)) (omega arith)
    ∙ (ap (λ (l : List HandleSlot). first_used n l) (drop_more slots n fresh_slot (omega arith))
    ∙ ap (λ (object : Option ObjNo). used_or n object (first_used (n + 1) (drop (n + 1) slots))) is))
