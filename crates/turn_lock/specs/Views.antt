-- What passes know, and where each is in its turn.
use Rattle.std.specs.Prelude.{ℕ, zero, suc, ◌+◌, List, [], ◌∷◌}
use Rattle.turn_lock.specs.declared.view.Logged.{Logged}
use Rattle.turn_lock.specs.declared.view.Sight.{Sight}
use Rattle.turn_lock.specs.declared.view.View.{View}
use Rattle.turn_lock.specs.declared.view.View.TheVariants.{Free, Drawn, Up, Holding, Lent, Left}

module _ {B : Type 0} where
  -- what a caller knows: the lock's base, the number of its passes, its own number, and the log so far
  abbrev pub sight : B → ℕ → ℕ → List Logged → Sight B
  sight base passes caller known = record { base = base; passes = passes; caller = caller; known = known }

  -- the callers from a number on, so many of them, each of which knows nothing yet
  abbrev pub newcomers : B → ℕ → ℕ → ℕ → List (Sight B)
  newcomers base passes from zero = []
  newcomers base passes from (suc n) = sight base passes from [] ∷ newcomers base passes (from + 1) n

  -- what a view knows, by caller
  abbrev pub sights : View B → List (Sight B)
  sights (Free all) = all
  sights (Drawn ticket a) = a ∷ []
  sights (Up ticket a) = a ∷ []
  sights (Holding ticket a) = a ∷ []
  sights (Lent ticket a) = a ∷ []
  sights (Left ticket a gain) = a ∷ []
