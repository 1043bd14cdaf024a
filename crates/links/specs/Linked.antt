-- Lists of numbered nodes, each node standing at one place at most.
use Rattle.std.specs.Prelude.{◌≡◌, ◌↔◌, IsNone, length, ℕ, ◌+◌, ◌<◌, Bool, not, ◌==◌, List, [], ◌∷◌, ◌++◌, drop, filter, length, map, replicate, IsTrue, IsNone, Option, Some, slice_get, slice_index_or, slice_set}
use Rattle.std.specs.List.{list_any}

-- the nodes are the numbers below one number; the lists are numbered from 0
pub record Linked : Type 0 where
  pub nodes : ℕ
  pub lists : List (List ℕ)

-- no node is on a list
abbrev pub empty_lists : ℕ → ℕ → Linked
empty_lists nodes lists = record { nodes = nodes; lists = replicate lists [] }

-- the list of a number
abbrev pub list_at : Linked → ℕ → List ℕ
list_at s list = slice_index_or s.lists list []

-- whether a list holds a node
abbrev pub holds : ℕ → List ℕ → Bool
holds node list = list_any (λ other. other == node) list

-- some list holds the node
abbrev pub IsLinked : Linked → ℕ → Type 0
IsLinked s node = IsTrue (list_any (holds node) s.lists)

-- another list stands for one of them, and the others stay
abbrev pub with_list : Linked → ℕ → List ℕ → Linked
with_list s list nodes = record s { lists = slice_set s.lists list nodes }

-- the node stands behind the others
abbrev pub pushed_back : Linked → ℕ → ℕ → Linked
pushed_back s list node = with_list s list (list_at s list ++ node ∷ [])

-- the node stands before the others
abbrev pub pushed_front : Linked → ℕ → ℕ → Linked
pushed_front s list node = with_list s list (node ∷ list_at s list)

-- the first node of a list is gone from it
abbrev pub popped_front : Linked → ℕ → Linked
popped_front s list = with_list s list (drop 1 (list_at s list))

-- a list without a node
abbrev pub without : ℕ → List ℕ → List ℕ
without node list = filter (λ other. not (other == node)) list

-- the node is gone from the list that held it, and the others, which didn't hold it, stay
abbrev pub unlinked : Linked → ℕ → Linked
unlinked s node = record s { lists = map (without node) s.lists }

-- of all lists the one where the node stands is changed, and it loses the node
abbrev pub ChangesItsListAlone : Linked → Linked → ℕ → Type 0
ChangesItsListAlone s t node =
    (list place : ℕ) → slice_get (list_at s list) place ≡ Some node → t ≡ with_list s list (without node (list_at s list))

-- wherever the node stands, the answer is what stands behind it
abbrev pub IsFollower : Linked → ℕ → Option ℕ → Type 0
IsFollower s node follower =
    (list place : ℕ) → slice_get (list_at s list) place ≡ Some node → follower ≡ slice_get (list_at s list) (place + 1)

-- and there is none exactly where the node is the last of its list
abbrev pub IsNoneAtLast : Linked → ℕ → Option ℕ → Type 0
IsNoneAtLast s node follower =
    (list place : ℕ) → slice_get (list_at s list) place ≡ Some node → IsNone follower ↔ (place + 1 ≡ length (list_at s list))

-- each node that is on a list is one of the nodes, and stands there once and on no other list
pub record AreApart (s : Linked) : Type 0 where
  pub below : (list place node : ℕ) → slice_get (list_at s list) place ≡ Some node → node < s.nodes
  pub once : (one other j k node : ℕ) → slice_get (list_at s one) j ≡ Some node → slice_get (list_at s other) k ≡ Some node → (one ≡ other) × (j ≡ k)
