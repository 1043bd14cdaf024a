-- Each call keeps the table sound.
use Rattle.std.proofs.Common.{◌≡◌, ℕ, ◌<◌, true, length, get_or, set, replicate, refl, sym, ap, ◌∙◌, arith, inl, inr, get_or-set_same, get_or-set_other, length-set}
use Rattle.std.specs.Prelude.{Option, Some, None, IfSome}
use Rattle.std.specs.List.{position_or_len}
use Rattle.std.proofs.lemmas.Bool.{cases_eq, cases_lt, eqb-true, eq-eqb, lt-ltb}
use Rattle.std.proofs.lemmas.List.{get_or_past, get_or-replicate, length-replicate}
use Rattle.std.proofs.lemmas.List.Sums.{fails_before_first}
use Rattle.sym_base.specs.declared.number.ObjNo.{ObjNo}
use Rattle.state_rows.specs.declared.nano.NanoRows.{NanoRows}
use Rattle.state_rows.specs.Nano.{is_thread, holder_of, held_by}
use Rattle.state_rows.specs.NanoChanges.{new_rows}
use Rattle.state_rows.specs.NanoSound.{AreNanoRows}

-- a thread is the holder that it is
pub is_thread-own : (t : ObjNo) → is_thread t (Some t) ≡ true
is_thread-own t = eq-eqb t.0 t.0 refl

-- a holder that is a thread
pub is_thread-true : (t : ObjNo) (holder : Option ObjNo) → is_thread t holder ≡ true → holder ≡ Some t
is_thread-true t None is = absurd (cc)
is_thread-true t (Some u) is =
    let named : ℕ → Option ObjNo = λ n. Some (record { 0 = n }) in
    ap named (eqb-true u.0 t.0 is)

-- beyond the last of a list of nothing there is nothing
none_anywhere : {X : Type 0} (n k : ℕ) (x : X) → get_or (replicate n None) k None ≡ Some x → ⊥
none_anywhere {X} n k x some =
    let nothing : Option X = None in
    elim (cases_lt k n) [
      | inl inside ↦ let none = get_or-replicate n k nothing nothing inside in absurd (cc)
      | inr past ↦
          let long = length-replicate n nothing in
          let none = get_or_past (replicate n nothing) k nothing (omega arith) in
          absurd (cc)
    ]

-- no count of a new table is above 0
zero_anywhere : (n k : ℕ) → ◌≡◌ {A = ℕ} (get_or (replicate n 0) k 0) 0
zero_anywhere n k = elim (cases_lt k n) [
  | inl inside ↦ get_or-replicate {A = ℕ} n k 0 0 inside
  | inr past ↦ let long = length-replicate {A = ℕ} n 0 in get_or_past (replicate n 0) k 0 (omega arith)
]

-- a new table
pub sound_new : (threads fast : ℕ) → fast < 256 → AreNanoRows (new_rows threads fast)
sound_new threads fast small =
    let nobody : Option ObjNo = None in
    let nothing : Option ℕ = None in
    record {
      suspensions_sized = refl;
      sections_sized = refl;
      wants_sized = length-replicate threads nothing ∙ sym (length-replicate {A = ℕ} threads 0);
      few = rw (length-replicate fast nobody) small;
      wants_known = λ t f some. absurd (none_anywhere threads t.0 f some);
      holders_known = λ f t some. absurd (none_anywhere fast f t some);
      limited = λ t. rw zero_anywhere (omega arith);
      one_each = λ f g t some other. absurd (none_anywhere fast f t some);
    }

-- a thread that holds no fast mutex is the holder of none
pub held_none : (r : NanoRows) (t : ObjNo) (f : ℕ) → held_by r t ≡ None → holder_of r f ≡ Some t → ⊥
held_none r t f none is = elim (cases_lt f (length r.holders)) [
  | inl inside ↦ elim (cases_lt f (position_or_len (is_thread t) r.holders)) [
    | inl before ↦
        let fails = fails_before_first (is_thread t) r.holders f None before in
        let passes = ap (is_thread t) is ∙ is_thread-own t in
        absurd (cc)
    | inr here ↦
        let found = lt-ltb (position_or_len (is_thread t) r.holders) (length r.holders) (omega arith) in
        absurd (cc (rw found at none))
  ]
  | inr past ↦ let nobody = get_or_past r.holders f None past in absurd (cc)
]

-- a thread that holds none takes a fast mutex
pub sound_taken : (r : NanoRows) (t : ObjNo) (f : ℕ) → AreNanoRows r → t.0 < length r.signals → f < length r.holders
    → held_by r t ≡ None → AreNanoRows (record r { holders = set r.holders f (Some t) })
sound_taken r t f sound known inside none = record {
  suspensions_sized = sound.suspensions_sized;
  sections_sized = sound.sections_sized;
  wants_sized = sound.wants_sized;
  few = rw length-set sound.few;
  wants_known = λ u g is. rw length-set (sound.wants_known u g is);
  holders_known = λ g u is. elim (cases_eq g f) [
    | inl here ↦ let same : Some t ≡ Some u = rw (here, get_or-set_same) at is in let one : t ≡ u = cc in rw (← one) known
    | inr there ↦ sound.holders_known g u (rw get_or-set_other at is)
  ];
  limited = sound.limited;
  one_each = λ g h u is other. elim (cases_eq g f) [
    | inl here ↦ elim (cases_eq h f) [
      | inl too ↦ here ∙ sym too
      | inr there ↦
          let same : Some t ≡ Some u = rw (here, get_or-set_same) at is in
          let one : t ≡ u = cc in
          let held : holder_of r h ≡ Some u = rw get_or-set_other at other in
          absurd (held_none r t h none (rw one held))
    ]
    | inr there ↦
        let held : holder_of r g ≡ Some u = rw get_or-set_other at is in
        elim (cases_eq h f) [
          | inl here ↦
              let same : Some t ≡ Some u = rw (here, get_or-set_same) at other in
              let one : t ≡ u = cc in
              absurd (held_none r t g none (rw one held))
          | inr too ↦ sound.one_each g h u held (rw get_or-set_other at other)
        ]
  ];
}

-- what holds of whatever stands in an option
pub if_some : {X : Type 0} (P : X → Type 0) (o : Option X) → ((x : X) → o ≡ Some x → P x) → IfSome o P
if_some P None each = tt
if_some P (Some x) each = each x refl
