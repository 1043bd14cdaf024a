-- What the parts of a turn do to a pass.
use Rattle.std.specs.Prelude.{◌≡◌, ℕ, ◌%◌, ◌^◌, List, [], ◌∷◌, ◌++◌}
use Rattle.entry_log.specs.declared.entry.Entry.{Entry}
use Rattle.turn_lock.specs.declared.view.Sight.{Sight}
use Rattle.turn_lock.specs.declared.view.View.TheVariants.{Free, Drawn, Up, Lent, Left}
use Rattle.turn_lock.specs.Log.{entries_of, MadeBelow}
use Rattle.turn_lock.specs.Steps.{Mine, KnowsMore}

module _ {V B : Type 0} where
  -- the pass of one caller, which is in no turn
  abbrev pub IsOne : Mine V B → Type 0
  IsOne old = (a : Sight B) × (old ≡ (Free (a ∷ []), []))

  -- it waits with a number, which is this one modulo 2^64
  abbrev pub Waits : Mine V B → ℕ → Mine V B → Type 0
  Waits old ticket new = (a : Sight B) → old ≡ (Free (a ∷ []), []) → (x : ℕ) × (b : Sight B) × KnowsMore a b × (x % 2 ^ 64 ≡ ticket) × (new ≡ (Drawn x b, []))

  -- it is its turn, and the lock's callers made all that it knows
  abbrev pub Waited : Mine V B → Mine V B → Type 0
  Waited old new = (a : Sight B) → old ≡ (Free (a ∷ []), []) → (x : ℕ) × (b : Sight B) × KnowsMore a b × MadeBelow b.passes b.known × (new ≡ (Up x b, []))

  abbrev pub IsUp : Mine V B → Type 0
  IsUp old = (x : ℕ) × (a : Sight B) × (old ≡ (Up x a, []))

  abbrev pub IsLent : Mine V B → Type 0
  IsLent old = (x : ℕ) × (a : Sight B) × (old ≡ (Lent x a, []))

  module _ (entries : V → List Entry) (base_in : V → B) where
    -- the value was taken out of the slot, and has the entries of the log
    abbrev pub Lends : Mine V B → V → Mine V B → Type 0
    Lends old value new = (x : ℕ) (a : Sight B) → old ≡ (Up x a, []) → (new ≡ (Lent x a, [])) × (entries value ≡ entries_of a.known) × (base_in value ≡ a.base)

    -- the value may come back: it has the base, and its list begins with the log's entries and has these beyond them
    abbrev pub MayReturn : Mine V B → V → List Entry → Type 0
    MayReturn old value gain = (x : ℕ) × (a : Sight B) × (old ≡ (Lent x a, [])) × (entries value ≡ entries_of a.known ++ gain) × (base_in value ≡ a.base)

    -- the value is in the slot again
    abbrev pub Returns : Mine V B → V → Mine V B → Type 0
    Returns old value new =
        (x : ℕ) (a : Sight B) (gain : List Entry) → old ≡ (Lent x a, []) → entries value ≡ entries_of a.known ++ gain → new ≡ (Left x a gain, [])
