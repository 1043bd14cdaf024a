-- What each kind of step tells the pass that makes it.
use Rattle.std.specs.Prelude.{◌≡◌, ◌≢◌, ℕ, ◌%◌, ◌^◌, List, [], ◌∷◌, ◌++◌, Option, Some, None}
use Rattle.atomic_table.specs.Table.{Me}
use Rattle.entry_log.specs.declared.entry.Entry.{Entry}
use Rattle.turn_lock.specs.declared.view.Sight.{Sight}
use Rattle.turn_lock.specs.declared.view.View.{View}
use Rattle.turn_lock.specs.declared.view.View.TheVariants.{Free, Drawn, Up, Holding, Lent, Left}
use Rattle.turn_lock.specs.Log.{Begins, entries_of, made_by, under, longer, MadeBelow}
use Rattle.turn_lock.specs.Views.{sight}

-- a caller that knows more of the log than before, and of its own entries the same
pub record KnowsMore {B : Type 0} (old new : Sight B) : Type 0 where
  pub base : new.base ≡ old.base
  pub passes : new.passes ≡ old.passes
  pub caller : new.caller ≡ old.caller
  pub known : Begins old.known new.known
  pub own : made_by new.caller new.known ≡ made_by old.caller old.known

-- two callers know the longer of what each of them knew, which the lock's callers made
pub record Met {B : Type 0} (a b : Sight B) : Type 0 where
  pub one : Begins a.known (longer a.known b.known)
  pub other : Begins b.known (longer a.known b.known)
  pub one_own : made_by a.caller (longer a.known b.known) ≡ made_by a.caller a.known
  pub other_own : made_by b.caller (longer a.known b.known) ≡ made_by b.caller b.known
  pub made : MadeBelow a.passes (longer a.known b.known)

-- what a pass is in a step: what it knows, and the slot if it has taken it
abbrev pub Mine : Type 0 → Type 0 → Type 0
Mine V B = Me (Option V) (View B)

module _ {V B : Type 0} where
  -- a number is drawn
  abbrev pub drew : Mine V B → ℕ → Mine V B → Type 0
  drew old found new = (a : Sight B) → old ≡ (Free (a ∷ []), []) → (x : ℕ) × (new ≡ (Drawn x a, [])) × (x % 2 ^ 64 ≡ found)

  -- the log so far is seen, which the lock's callers made, and whether the drawn number has its turn
  abbrev pub looked : Mine V B → ℕ → Mine V B → Type 0
  looked old found new =
      (x : ℕ) (a : Sight B) → old ≡ (Drawn x a, [])
      → (b : Sight B) × KnowsMore a b × MadeBelow b.passes b.known × (x % 2 ^ 64 ≡ found → new ≡ (Up x b, [])) × (x % 2 ^ 64 ≢ found → new ≡ (Drawn x b, []))

  -- the slot is given back empty
  abbrev pub lent : Mine V B → ℕ → Mine V B → Type 0
  lent old found new = (x : ℕ) (a : Sight B) → old ≡ (Holding x a, (0, None) ∷ []) → new ≡ (Lent x a, [])

  -- the empty slot is taken
  abbrev pub retook : Mine V B → ℕ → Mine V B → Type 0
  retook old found new = (x : ℕ) (a : Sight B) → old ≡ (Lent x a, []) → new ≡ (Holding x a, (0, None) ∷ [])

  -- the log is longer by what the value gained, under the caller's number, and the lock's callers made all of it
  abbrev pub published : Mine V B → ℕ → Mine V B → Type 0
  published old found new =
      (x : ℕ) (a : Sight B) (gain : List Entry) → old ≡ (Left x a gain, [])
      → (new ≡ (Free (sight a.base a.passes a.caller (a.known ++ under a.caller gain) ∷ []), [])) × MadeBelow a.passes (a.known ++ under a.caller gain)

  -- two callers share what they know
  abbrev pub met : Mine V B → ℕ → Mine V B → Type 0
  met old found new =
      (a b : Sight B) → old ≡ (Free (a ∷ b ∷ []), [])
      → Met a b × (new ≡ (Free (sight a.base a.passes a.caller (longer a.known b.known) ∷ sight b.base b.passes b.caller (longer a.known b.known) ∷ []), []))

  module _ (entries : V → List Entry) (base_in : V → B) where
    -- the slot is taken with the value, which has the entries of the log
    abbrev pub took : Mine V B → ℕ → Mine V B → Type 0
    took old found new =
        (x : ℕ) (a : Sight B) → old ≡ (Up x a, [])
        → (v : V) × (new ≡ (Holding x a, (0, Some v) ∷ [])) × (entries v ≡ entries_of a.known) × (base_in v ≡ a.base)

    -- the slot is given back with the value, which has gained these entries
    abbrev pub gave_back : Mine V B → ℕ → Mine V B → Type 0
    gave_back old found new =
        (x : ℕ) (a : Sight B) (v : V) (gain : List Entry) → old ≡ (Holding x a, (0, Some v) ∷ [])
        → entries v ≡ entries_of a.known ++ gain → new ≡ (Left x a gain, [])
