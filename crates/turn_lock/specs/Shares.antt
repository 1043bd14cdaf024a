-- How views are joined and split.
use Rattle.std.specs.Prelude.{[], ◌∷◌, ◌++◌}
use Rattle.turn_lock.specs.declared.view.View.{View}
use Rattle.turn_lock.specs.declared.view.View.TheVariants.{Free}

module _ {B : Type 0} where
  -- the first caller's share of a view
  abbrev pub first_of : View B → View B
  first_of (Free (a ∷ all)) = Free (a ∷ [])
  first_of v = v

  -- the other callers' share
  abbrev pub others_of : View B → View B
  others_of (Free (a ∷ all)) = Free all
  others_of v = Free []

  -- what two views know together
  abbrev pub both_of : View B → View B → View B
  both_of (Free one) (Free other) = Free (one ++ other)
  both_of v w = v

  -- a view that a join has spent knows for nobody
  abbrev pub spent : View B
  spent = Free []
