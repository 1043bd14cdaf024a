-- The ready threads as one list of threads with their priorities, in order of arrival.
use Rattle.std.specs.Prelude.{◌≡◌, ℕ, ◌<◌, Bool, not, ◌==◌, if◌then◌else◌, List, [], ◌∷◌, ◌++◌, length, All, Option, option_map, filter, map}
use Rattle.std.specs.List.{list_any}
use Rattle.sym_base.specs.declared.number.ObjNo.{ObjNo}
use Rattle.sym_base.specs.Greatest.{unless_greater}
use Rattle.sym_base.specs.Greatest as greatest
use Rattle.ready_list.specs.Ready.{Ready, queue_at}

-- the threads of a priority
abbrev pub queue_of : ℕ → List (ObjNo × ℕ) → List ObjNo
queue_of p list = map (λ x. x.0) (filter (λ x. x.1 == p) list)

-- the queue of each of the 64 priorities has the threads of that priority, in the same order
pub record AreQueuesOf (list : List (ObjNo × ℕ)) (r : Ready) : Type 0 where
  pub ranged : All (λ x. x.1 < 64) list
  pub sized : length r.queues ≡ 64
  pub each : (p : ℕ) → p < 64 → queue_at r p ≡ queue_of p list

-- the one that came first, unless the best of the later ones has a greater priority
abbrev pub better : ObjNo × ℕ → Option (ObjNo × ℕ) → Option (ObjNo × ℕ)
better x later = unless_greater (λ y. y.1) x later

-- the first of those with the greatest priority
abbrev pub best : List (ObjNo × ℕ) → Option (ObjNo × ℕ)
best list = greatest.first_of_greatest (λ y. y.1) list

-- the thread of the greatest priority that came first
abbrev pub first_of_greatest : List (ObjNo × ℕ) → Option ObjNo
first_of_greatest list = option_map (λ x. x.0) (best list)

-- whether a thread is in the list
abbrev pub is_listed : ObjNo → List (ObjNo × ℕ) → Bool
is_listed t list = list_any (λ x. x.0.0 == t.0) list

-- the list without a thread
abbrev pub unlisted : ObjNo → List (ObjNo × ℕ) → List (ObjNo × ℕ)
unlisted t list = filter (λ x. not (x.0.0 == t.0)) list

-- the first of a priority comes to the end
abbrev pub rearrived : ℕ → List (ObjNo × ℕ) → List (ObjNo × ℕ)
rearrived p [] = []
rearrived p (x ∷ later) = if x.1 == p then later ++ x ∷ [] else x ∷ rearrived p later
