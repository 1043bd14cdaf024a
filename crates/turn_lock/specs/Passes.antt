-- What a clause says of a lock and its passes.
use Rattle.std.specs.Prelude.{◌≡◌, ℕ, zero, suc, ◌+◌, List, [], ◌∷◌, map, All, Contains}
use Rattle.entry_log.specs.declared.entry.Entry.{Entry}
use Rattle.turn_lock.specs.declared.view.Logged.{Logged}
use Rattle.turn_lock.specs.declared.view.Sight.{Sight}
use Rattle.turn_lock.specs.declared.view.View.{View}
use Rattle.turn_lock.specs.declared.view.View.TheVariants.{Free, Lent}
use Rattle.turn_lock.specs.declared.pass.Pass.{Pass}
use Rattle.turn_lock.specs.LockId.{LockId}
use Rattle.turn_lock.specs.Log.{Begins, made_by, MadeBelow}
use Rattle.turn_lock.specs.Views.{sight, sights}

-- the numbers from one on, so many of them
abbrev pub numbers : ℕ → ℕ → List ℕ
numbers from zero = []
numbers from (suc n) = from ∷ numbers (from + 1) n

module _ {B : Type 0} where
  abbrev first_caller : List (Sight B) → ℕ
  first_caller [] = 0
  first_caller (a ∷ all) = a.caller

  abbrev first_known : List (Sight B) → List Logged
  first_known [] = []
  first_known (a ∷ all) = a.known

  abbrev all_sights : List (View B) → List (Sight B)
  all_sights [] = []
  all_sights (v ∷ vs) = sights v

  -- the number of the pass's caller
  abbrev pub caller_of : Pass B → ℕ
  caller_of p = first_caller (all_sights p.badge.views)

  -- the prefix of the log that the pass knows
  abbrev pub known_of : Pass B → List Logged
  known_of p = first_known (all_sights p.badge.views)

  -- the entries that its caller made, as far as it knows
  abbrev pub own_of : Pass B → List Entry
  own_of p = made_by (caller_of p) (known_of p)

  -- all that the pass of a lock knows
  abbrev pub sight_of : LockId B → Pass B → Sight B
  sight_of lock p = sight lock.base lock.passes (caller_of p) (known_of p)

  -- Each entry that the pass knows has the number of one of the lock's passes. They are numbered from 0, so it is below how many they are.
  abbrev pub MadeByPasses : LockId B → Pass B → Type 0
  MadeByPasses lock p = MadeBelow lock.passes (known_of p)

  -- a pass of this lock that is in no turn
  pub record IsFree (lock : LockId B) (p : Pass B) : Type 0 where
    pub table : p.badge.table_id ≡ lock.table
    pub views : p.badge.views ≡ Free (sight_of lock p ∷ []) ∷ []

  -- a pass of this lock that is in its turn
  pub record IsInTurn (lock : LockId B) (p : Pass B) : Type 0 where
    pub table : p.badge.table_id ≡ lock.table
    pub ticket : ℕ
    pub views : p.badge.views ≡ Lent ticket (sight_of lock p) ∷ []

  -- The whole log: it begins with what each of the passes knows, it has no entries of theirs but those that they know of, and all of
  -- its entries are theirs.
  pub record IsWhole (passes : List (Pass B)) (log : List Logged) : Type 0 where
    pub begins : All (λ p. Begins (known_of p) log) passes
    pub own : All (λ p. made_by (caller_of p) log ≡ own_of p) passes
    pub callers : All (λ x. Contains (map caller_of passes) x.caller) log
