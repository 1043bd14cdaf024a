-- The choice of the greatest, one element after the other. It only serves proofs.
use Rattle.std.specs.Prelude.{ℕ, Option, Some, None}
use Rattle.sym_base.specs.Greatest.{unless_greater}

-- the best so far and the best of those to come
abbrev pub best_of : {A : Type 0} → (A → ℕ) → Option A → Option A → Option A
best_of weight None later = later
best_of weight (Some first) later = unless_greater weight first later

-- the best so far, where one more has come
abbrev pub better : {A : Type 0} → (A → ℕ) → Option A → A → Option A
better weight best next = best_of weight best (Some next)
