-- The first element of the greatest weight: the thread that runs, the waiter that is served, the call that is next.
use Rattle.std.specs.Prelude.{ℕ, nat_lt, if◌then◌else◌, List, [], ◌∷◌, Option, Some, None}

-- an element, unless the choice among the later ones has a greater weight
abbrev pub unless_greater : {A : Type 0} → (A → ℕ) → A → Option A → Option A
unless_greater weight x None = Some x
unless_greater weight x (Some later) = if nat_lt (weight x) (weight later) then Some later else Some x

-- the first of those with the greatest weight, or nothing of nothing
abbrev pub first_of_greatest : {A : Type 0} → (A → ℕ) → List A → Option A
first_of_greatest weight [] = None
first_of_greatest weight (x ∷ later) = unless_greater weight x (first_of_greatest weight later)
