-- Which fast mutex each thread holds after a take and a give.
use Rattle.std.proofs.Common.{◌≡◌, ◌≢◌, ℕ, ◌<◌, false, length, set, refl, sym, arith, inl, inr, get_or-set_same, get_or-set_other, length-set}
use Rattle.std.specs.Prelude.{Option, Some, None}
use Rattle.std.specs.List.{position_or_len}
use Rattle.std.proofs.lemmas.Bool.{cases_Bool, cases_eq, lt-ltb, le-ltb}
use Rattle.std.proofs.lemmas.List.Folds.{position_or_len-set}
use Rattle.std.proofs.lemmas.List.Sums.{position_or_len_is}
use Rattle.sym_base.specs.declared.number.ObjNo.{ObjNo}
use Rattle.state_rows.specs.declared.nano.NanoRows.{NanoRows}
use Rattle.state_rows.specs.Nano.{is_thread, holder_of, held_by}
use Rattle.state_rows.specs.NanoSound.{AreNanoRows}
use Rattle.state_rows.proofs.Soundness.{is_thread-own, is_thread-true, held_none}

-- what isn't the holder fails the test
not_holder : (t : ObjNo) (holder : Option ObjNo) → (holder ≡ Some t → ⊥) → is_thread t holder ≡ false
not_holder t holder other = elim (cases_Bool (is_thread t holder)) [
  | inl is ↦ absurd (other (is_thread-true t holder is))
  | inr isn't ↦ isn't
]

-- another thread isn't the one that holds
pub other_thread : (t u : ObjNo) → u ≢ t → is_thread u (Some t) ≡ false
other_thread t u differ = not_holder u (Some t) (λ is. let one : t ≡ u = cc in differ (sym one))

-- the thread that takes a fast mutex holds it
pub held_by-take : (r : NanoRows) (t : ObjNo) (f : ℕ) → f < length r.holders → held_by r t ≡ None
    → held_by (record r { holders = set r.holders f (Some t) }) t ≡ Some f
held_by-take r t f inside none =
    let after = set r.holders f (Some t) in
    let long = length-set r.holders f (Some t) in
    let first : position_or_len (is_thread t) after ≡ f =
    position_or_len_is (is_thread t) after f None (omega arith)
    (λ k before.
    let apart : k ≢ f = omega arith in
    rw get_or-set_other (not_holder t (holder_of r k) (held_none r t k none)))
    (λ within. rw get_or-set_same (is_thread-own t)) in
    let within = lt-ltb f (length after) (omega arith) in
    rw (first, within) refl

-- the thread that gives its fast mutex holds none
pub held_by-give : (r : NanoRows) (t : ObjNo) (f : ℕ) → AreNanoRows r → f < length r.holders → holder_of r f ≡ Some t
    → held_by (record r { holders = set r.holders f None }) t ≡ None
held_by-give r t f sound inside holds =
    let nobody : Option ObjNo = None in
    let after = set r.holders f nobody in
    let none : position_or_len (is_thread t) after ≡ length after =
    position_or_len_is (is_thread t) after (length after) None (omega arith)
    (λ k before. elim (cases_eq k f) [
      | inl here ↦ rw (here, get_or-set_same) refl
      | inr apart ↦ rw get_or-set_other (not_holder t (holder_of r k) (λ too. apart (sound.one_each k f t too holds)))
    ])
    (λ within. absurd (omega arith)) in
    let past = le-ltb (length after) (length after) (omega arith) in
    rw (none, past) refl

-- a thread that neither held the fast mutex nor holds it holds what it held
pub held_by-other : (r : NanoRows) (u : ObjNo) (f : ℕ) (holder : Option ObjNo)
    → is_thread u holder ≡ is_thread u (holder_of r f)
    → held_by (record r { holders = set r.holders f holder }) u ≡ held_by r u
held_by-other r u f holder same =
    let place = position_or_len-set (is_thread u) r.holders f holder None same in
    let long = length-set r.holders f holder in
    rw (place, long) refl
