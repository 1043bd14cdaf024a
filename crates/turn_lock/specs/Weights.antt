-- Numbers of views that are added up over all of them. A step changes one view, and so each total by what that view's number changes.
use Rattle.std.specs.Prelude.{ℕ, ◌+◌, ◌==◌, Bool, true, false, List, [], ◌∷◌, length}
use Rattle.turn_lock.specs.declared.view.View.{View}
use Rattle.turn_lock.specs.declared.view.View.TheVariants.{Free, Drawn, Up, Holding, Lent, Left}
use Rattle.turn_lock.specs.Views.{sights}

abbrev pub total : {A : Type 0} → (A → ℕ) → List A → ℕ
total f [] = 0
total f (x ∷ xs) = f x + total f xs

abbrev pub one_if : Bool → ℕ
one_if true = 1
one_if false = 0

module _ {B : Type 0} where
  -- for how many callers the view knows
  abbrev pub callers_in : View B → ℕ
  callers_in v = length (sights v)

  -- how often a caller is among them
  abbrev pub times_of : ℕ → View B → ℕ
  times_of caller v = total (λ a. one_if (a.caller == caller)) (sights v)

  -- 1 if the view has drawn a number
  abbrev pub is_drawn : View B → ℕ
  is_drawn (Free all) = 0
  is_drawn _ = 1

  -- 1 if the view has drawn this number
  abbrev pub has_ticket : ℕ → View B → ℕ
  has_ticket ticket (Free all) = 0
  has_ticket ticket (Drawn x a) = one_if (x == ticket)
  has_ticket ticket (Up x a) = one_if (x == ticket)
  has_ticket ticket (Holding x a) = one_if (x == ticket)
  has_ticket ticket (Lent x a) = one_if (x == ticket)
  has_ticket ticket (Left x a gain) = one_if (x == ticket)

  -- 1 if the view alone knows what is in the slot: the slot is out with it, or is empty, or has more than the log
  abbrev pub keeps_slot : View B → ℕ
  keeps_slot (Free all) = 0
  keeps_slot (Drawn x a) = 0
  keeps_slot (Up x a) = 0
  keeps_slot (Holding x a) = 1
  keeps_slot (Lent x a) = 1
  keeps_slot (Left x a gain) = 1
