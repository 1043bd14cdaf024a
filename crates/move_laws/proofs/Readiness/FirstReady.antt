-- The thread that is chosen is one of the ready list.
use Rattle.std.proofs.Common.{◌≡◌, ℕ, List, [], ◌∷◌, refl, ap, Option, Some, None, Bool, true, false}
use Rattle.std.specs.Prelude.{◌==◌, ◌||◌, if◌then◌else◌, nat_lt}
use Rattle.std.proofs.lemmas.Bool.{eq-eqb, or_left, or_right}
use Rattle.sym_base.specs.declared.number.ObjNo.{ObjNo}
use Rattle.sym_base.specs.Greatest.{unless_greater, first_of_greatest}
use Rattle.machine.specs.declared.state.State.{State}
use Rattle.machine.specs.Arrivals.{is_listed}
use Rattle.machine.specs.Choice.{first_ready, priority_of}

here : (x t : ObjNo) (rest : List ObjNo) → x ≡ t → ((x.0 == t.0) || is_listed rest t) ≡ true
here x t rest same = or_left (x.0 == t.0) (is_listed rest t) (eq-eqb x.0 t.0 (ap (λ (y : ObjNo). y.0) same))

chosen_step : (x y t : ObjNo) (rest : List ObjNo) (b : Bool) → (if b then Some y else Some x) ≡ Some t
    → (y ≡ t → is_listed rest t ≡ true) → ((x.0 == t.0) || is_listed rest t) ≡ true
chosen_step x y t rest true e there = or_right (x.0 == t.0) (is_listed rest t) (there (cc))
chosen_step x y t rest false e there = here x t rest (cc)

chosen_listed : (weight : ObjNo → ℕ) (x t : ObjNo) (rest : List ObjNo) (found : Option ObjNo)
    → unless_greater weight x found ≡ Some t → (found ≡ Some t → is_listed rest t ≡ true)
    → ((x.0 == t.0) || is_listed rest t) ≡ true
chosen_listed weight x t rest None e there = here x t rest (cc)
chosen_listed weight x t rest (Some y) e there = chosen_step x y t rest (nat_lt (weight x) (weight y)) e (λ same. there (ap Some same))

-- so is one of the greatest weight among those of any list
pub greatest_listed : (weight : ObjNo → ℕ) (qs : List ObjNo) (t : ObjNo) → first_of_greatest weight qs ≡ Some t → is_listed qs t ≡ true
greatest_listed weight [] t e = absurd (cc)
greatest_listed weight (x ∷ xs) t e = chosen_listed weight x t xs (first_of_greatest weight xs) e (greatest_listed weight xs t)

pub first_listed : (S : State) (qs : List ObjNo) (t : ObjNo) → first_ready S qs ≡ Some t → is_listed qs t ≡ true
first_listed S qs t e = greatest_listed (priority_of S) qs t e

-- and where none is chosen, the list is empty
pub none_listed : (S : State) (qs : List ObjNo) (t : ObjNo) → first_ready S qs ≡ None → is_listed qs t ≡ false
none_listed S [] t e = refl
none_listed S (x ∷ xs) t e = by (first_of_greatest (priority_of S) xs) e
  where
    either : (b : Bool) (y : ObjNo) → (if b then Some y else Some x) ≡ None → is_listed (x ∷ xs) t ≡ false
    either true y e = absurd (cc)
    either false y e = absurd (cc)

    by : (found : Option ObjNo) → unless_greater (priority_of S) x found ≡ None → is_listed (x ∷ xs) t ≡ false
    by None e = absurd (cc)
    by (Some y) e = either (nat_lt (priority_of S x) (priority_of S y)) y e
