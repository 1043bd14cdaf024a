-- What holds of the lock between any two steps: the two words, the slot, what each pass knows, and the log.
use Rattle.std.specs.Prelude.{◌≡◌, ℕ, ◌+◌, ◌%◌, ◌^◌, ◌<◌, ◌≤◌, List, [], ◌∷◌, ◌++◌, Option, Some, None}
use mathlib.Core.Option.{Option as Home, none, some}
use lib.ListN.{get_elem?}
use Rattle.atomic_table.specs.Table.{State}
use Rattle.entry_log.specs.declared.entry.Entry.{Entry}
use Rattle.turn_lock.specs.declared.view.Logged.{Logged}
use Rattle.turn_lock.specs.declared.view.Sight.{Sight}
use Rattle.turn_lock.specs.declared.view.View.{View}
use Rattle.turn_lock.specs.declared.view.View.TheVariants.{Free, Drawn, Up, Holding, Lent, Left}
use Rattle.turn_lock.specs.Log.{Begins, entries_of, made_by, MadeBelow}
use Rattle.turn_lock.specs.Views.{sights}
use Rattle.turn_lock.specs.Weights.{total, callers_in, times_of, is_drawn, has_ticket, keeps_slot}

abbrev pub Each : {A : Type 0} → (A → Type 0) → List A → Type 0
Each P [] = Unit {0}
Each P (x ∷ xs) = P x × Each P xs

module _ {V B : Type 0} (entries : V → List Entry) (base_in : V → B) (base : B) (count : ℕ) where
  -- a caller knows the lock's base, the number of its passes, a prefix of the log, and in it all the entries that it made
  pub record Knows (log : List Logged) (a : Sight B) : Type 0 where
    pub base_is : a.base ≡ base
    pub passes_are : a.passes ≡ count
    pub numbered : a.caller < count
    pub known : Begins a.known log
    pub own : made_by a.caller log ≡ made_by a.caller a.known

  -- the value is in the slot, with the lock's base and these entries
  pub record IsThere (homes : List (Home (Option V))) (es : List Entry) : Type 0 where
    pub value : V
    pub slot : homes ≡ some (Some value) ∷ []
    pub list : entries value ≡ es
    pub base_is : base_in value ≡ base

  -- whose turn it is knows the whole log
  pub record IsUp (log : List Logged) (serving ticket : ℕ) (a : Sight B) : Type 0 where
    pub turn : ticket ≡ serving
    pub whole : a.known ≡ log

  -- where a view is in its turn, and what is in the slot then
  abbrev pub Stands : List (Home (Option V)) → List Logged → ℕ → ℕ → View B → Type 0
  Stands homes log next serving (Free all) = Unit {0}
  Stands homes log next serving (Drawn x a) = (serving ≤ x) × (x < next)
  Stands homes log next serving (Up x a) = IsUp log serving x a × IsThere homes (entries_of log)
  Stands homes log next serving (Holding x a) = IsUp log serving x a × (homes ≡ none ∷ [])
  Stands homes log next serving (Lent x a) = IsUp log serving x a × (homes ≡ some None ∷ [])
  Stands homes log next serving (Left x a gain) = IsUp log serving x a × IsThere homes (entries_of log ++ gain)

  pub record Fits (homes : List (Home (Option V))) (log : List Logged) (next serving : ℕ) (v : View B) : Type 0 where
    pub knows : Each (Knows log) (sights v)
    pub stands : Stands homes log next serving v

  -- The first word is the next number to be drawn, the second the one whose turn it is, both modulo 2^64. No caller is
  -- known for twice and no number is drawn twice. If no view keeps the slot, the value is in it, and has the entries of the log.
  pub record Kept (s : State (Option V) (View B)) : Type 0 where
    pub log : List Logged
    pub next : ℕ
    pub serving : ℕ
    pub few : count ≤ 16
    pub words : s.words ≡ next % 2 ^ 64 ∷ serving % 2 ^ 64 ∷ []
    pub known_for : total callers_in s.views ≡ count
    pub once : (caller : ℕ) → total (times_of caller) s.views ≤ 1
    pub apart : (ticket : ℕ) → total (has_ticket ticket) s.views ≤ 1
    pub drawn : serving + total is_drawn s.views ≡ next
    pub there : total keeps_slot s.views ≡ 0 → IsThere s.homes (entries_of log)
    pub each : (id : ℕ) (v : View B) → get_elem? s.views id ≡ some v → Fits s.homes log next serving v
    pub made : MadeBelow count log
