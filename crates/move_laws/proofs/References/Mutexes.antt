-- What a mutex more or less does to what threads hold and to the count of an object.
use Rattle.std.proofs.Common.{◌≡◌, inl, inr, ℕ, ◌+◌, ◌<◌, List, [], ◌∷◌, ◌++◌, length, get_or, arith, refl, sym, subst, ap, ◌∙◌, Bool, true, false}
use Rattle.std.specs.Prelude.{◌==◌, if◌then◌else◌, not}
use Rattle.std.proofs.lemmas.Bool.{cases_eq, eq-eqb, eqb-true, eqb-false}
use Rattle.std.proofs.lemmas.List.{get_or-set_same, get_or-set_other}
use Rattle.sym_base.specs.declared.number.ObjNo.{ObjNo}
use Rattle.entry_log.specs.declared.effect.Holder.TheVariants.{Own}
use Rattle.state_rows.specs.Locks.{without}
use Rattle.machine.specs.Holding.{same_pair}
use Rattle.machine.specs.LockMoves.{holding, not_holding}
use Rattle.machine.specs.References.{total, mutex_names, same}
use Rattle.machine.specs.WellFormed.{times_held}
use Rattle.move_laws.proofs.Lists.Totals.{total-set, total-append}
use Rattle.move_laws.proofs.References.Same.{if_is, if_not, eqb_apart, same_self, same_other, same_object}

other_step : (o p y : ObjNo) (l kept : List ObjNo) (at : Bool) → (y.0 == o.0) ≡ at → (o.0 ≡ p.0 → ⊥)
    → total (mutex_names p) kept ≡ total (mutex_names p) l
    → total (mutex_names p) (if not at then y ∷ kept else kept) ≡ same y p + total (mutex_names p) l
other_step o p y l kept true e apart h = let same_y = eqb-true y.0 o.0 e in let a = same_other y p (λ q. apart (sym same_y ∙ q)) in omega arith
other_step o p y l kept false e apart h = omega arith

-- some mutexes without one name the others as often
names-without_other : (o p : ObjNo) (l : List ObjNo) → (o.0 ≡ p.0 → ⊥) → total (mutex_names p) (without o l) ≡ total (mutex_names p) l
names-without_other o p [] apart = refl
names-without_other o p (y ∷ l) apart = other_step o p y l (without o l) (y.0 == o.0) refl apart (names-without_other o p l apart)

own_step : (o y : ObjNo) (kept : List ObjNo) (at : Bool) → (y.0 == o.0) ≡ at → total (mutex_names o) kept ≡ 0
    → total (mutex_names o) (if not at then y ∷ kept else kept) ≡ 0
own_step o y kept true e h = h
own_step o y kept false e h = let a = same_other y o (eqb-false y.0 o.0 e) in omega arith

-- and that one never
names-without_own : (o : ObjNo) (l : List ObjNo) → total (mutex_names o) (without o l) ≡ 0
names-without_own o [] = refl
names-without_own o (y ∷ l) = own_step o y (without o l) (y.0 == o.0) refl (names-without_own o l)

-- so the object that stands among them once is named once less
names-without : (o p : ObjNo) (l : List ObjNo) → total (mutex_names o) l ≡ 1 → total (mutex_names p) (without o l) + same o p ≡ total (mutex_names p) l
names-without o p l once = elim (cases_eq o.0 p.0) as (λ _. total (mutex_names p) (without o l) + same o p ≡ total (mutex_names p) l) [
  | inl at ↦
      subst (λ (x : ObjNo). total (mutex_names x) (without o l) + same o x ≡ total (mutex_names x) l)
      (same_object o p at) (let a = names-without_own o l in let b = same_self o in omega arith)
  | inr apart ↦ let a = names-without_other o p l apart in let b = same_other o p apart in omega arith
]

names-push : (o p : ObjNo) (l : List ObjNo) → total (mutex_names p) (l ++ o ∷ []) ≡ total (mutex_names p) l + same o p
names-push o p l = let a = total-append (mutex_names p) l (o ∷ []) in omega arith

-- all that threads hold, where one holds a mutex more, and where it holds one less
pub count-holding : (mutexes : List (List ObjNo)) (t o p : ObjNo) → t.0 < length mutexes
    → total (total (mutex_names p)) (holding mutexes t o) ≡ total (total (mutex_names p)) mutexes + same o p
count-holding mutexes t o p h =
    let outer = total-set (total (mutex_names p)) mutexes t.0 (get_or mutexes t.0 [] ++ o ∷ []) [] h in
    let inner = names-push o p (get_or mutexes t.0 []) in omega arith

pub count-not_holding : (mutexes : List (List ObjNo)) (t o p : ObjNo) → t.0 < length mutexes
    → times_held mutexes t o ≡ 1
    → total (total (mutex_names p)) (not_holding mutexes t o) + same o p ≡ total (total (mutex_names p)) mutexes
count-not_holding mutexes t o p h once =
    let outer = total-set (total (mutex_names p)) mutexes t.0 (without o (get_or mutexes t.0 [])) [] h in
    let inner = names-without o p (get_or mutexes t.0 []) once in omega arith

-- what each thread holds then
pub held-holding : (mutexes : List (List ObjNo)) (t o u x : ObjNo) → t.0 < length mutexes
    → times_held (holding mutexes t o) u x ≡ times_held mutexes u x + same_pair (Own t) o (Own u) x
held-holding mutexes t o u x h =
    elim (cases_eq t.0 u.0) as (λ _. times_held (holding mutexes t o) u x
    ≡ times_held mutexes u x + same_pair (Own t) o (Own u) x) [
      | inl at ↦
          let a = if_is (t.0 == u.0) (same o x) (eq-eqb t.0 u.0 at) in
          let b : times_held (holding mutexes t o) u x ≡ times_held (holding mutexes t o) t x =
          ap (λ (n : ℕ). total (mutex_names x) (get_or (holding mutexes t o) n [])) (sym at) in
          let c : times_held (holding mutexes t o) t x ≡ total (mutex_names x) (get_or mutexes t.0 [] ++ o ∷ []) =
          ap (total (mutex_names x)) (get_or-set_same mutexes t.0 (get_or mutexes t.0 [] ++ o ∷ []) [] h) in
          let d = names-push o x (get_or mutexes t.0 []) in
          let e : times_held mutexes u x ≡ times_held mutexes t x = ap (λ (n : ℕ). total (mutex_names x) (get_or mutexes n [])) (sym at) in omega arith
      | inr apart ↦
          let a = if_not (t.0 == u.0) (same o x) (eqb_apart t.0 u.0 apart) in
          let b : times_held (holding mutexes t o) u x ≡ times_held mutexes u x =
          ap (total (mutex_names x)) (get_or-set_other mutexes t.0 u.0 (get_or mutexes t.0 [] ++ o ∷ []) []
          (λ e. apart (sym e))) in
          omega arith
    ]

pub held-not_holding : (mutexes : List (List ObjNo)) (t o u x : ObjNo) → t.0 < length mutexes
    → times_held mutexes t o ≡ 1
    → times_held (not_holding mutexes t o) u x + same_pair (Own t) o (Own u) x ≡ times_held mutexes u x
held-not_holding mutexes t o u x h once =
    elim (cases_eq t.0 u.0) as (λ _. times_held (not_holding mutexes t o) u x + same_pair (Own t) o (Own u) x
    ≡ times_held mutexes u x) [
      | inl at ↦
          let a = if_is (t.0 == u.0) (same o x) (eq-eqb t.0 u.0 at) in
          let b : times_held (not_holding mutexes t o) u x ≡ times_held (not_holding mutexes t o) t x =
          ap (λ (n : ℕ). total (mutex_names x) (get_or (not_holding mutexes t o) n [])) (sym at) in
          let c : times_held (not_holding mutexes t o) t x ≡ total (mutex_names x) (without o (get_or mutexes t.0 [])) =
          ap (total (mutex_names x)) (get_or-set_same mutexes t.0 (without o (get_or mutexes t.0 [])) [] h) in
          let d = names-without o x (get_or mutexes t.0 []) once in
          let e : times_held mutexes u x ≡ times_held mutexes t x = ap (λ (n : ℕ). total (mutex_names x) (get_or mutexes n [])) (sym at) in omega arith
      | inr apart ↦
          let a = if_not (t.0 == u.0) (same o x) (eqb_apart t.0 u.0 apart) in
          let b : times_held (not_holding mutexes t o) u x ≡ times_held mutexes u x =
          ap (total (mutex_names x)) (get_or-set_other mutexes t.0 u.0 (without o (get_or mutexes t.0 [])) []
          (λ e. apart (sym e))) in
          omega arith
    ]
