-- The best so far, against the best of a list.
use Rattle.std.proofs.Common.{◌≡◌, ℕ, Option, Some, None, refl, arith, Bool, true, false}
use Rattle.std.specs.Prelude.{nat_lt, if◌then◌else◌}
use Rattle.sym_base.specs.Greatest.{unless_greater}
use Rattle.plain_reads.specs.BestSoFar.{best_of, better}

-- nothing to come leaves the best so far
pub best_alone : {A : Type 0} (weight : A → ℕ) (best : Option A) → best_of weight best None ≡ best
best_alone weight None = refl
best_alone weight (Some first) = refl

-- three in a row: x first, then y, then z
of_three : {A : Type 0} (weight : A → ℕ) (x y z : A) (x_y y_z x_z : Bool) → nat_lt (weight x) (weight y) ≡ x_y
    → nat_lt (weight y) (weight z) ≡ y_z → nat_lt (weight x) (weight z) ≡ x_z
    → best_of weight (if x_y then Some y else Some x) (Some z) ≡ best_of weight (Some x) (if y_z then Some z else Some y)
of_three weight x y z true true true a b c = rw (b, c) refl
of_three weight x y z true true false a b c = absurd (grind arith)
of_three weight x y z true false true a b c = rw (a, b) refl
of_three weight x y z true false false a b c = rw (a, b) refl
of_three weight x y z false true true a b c = refl
of_three weight x y z false true false a b c = refl
of_three weight x y z false false true a b c = absurd (grind arith)
of_three weight x y z false false false a b c = rw (a, c) refl

-- whether one more is taken to those before it or to those behind it
pub best_step : {A : Type 0} (weight : A → ℕ) (best : Option A) (y : A) (rest : Option A)
    → best_of weight (better weight best y) rest ≡ best_of weight best (unless_greater weight y rest)
best_step weight None y rest = refl
best_step weight (Some x) y None = best_alone weight (unless_greater weight x (Some y))
best_step weight (Some x) y (Some z) = of_three weight x y z _ _ _ refl refl refl
