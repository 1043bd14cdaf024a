-- How two lists of neighbours stand for the lists of nodes. An entry is a node, or the end of a list: the end of list l
-- is the entry at the number of nodes and l. Each list is a ring from its end through its nodes back to its end.
use Rattle.std.specs.Prelude.{◌≡◌, ◌≢◌, ℕ, zero, suc, ◌+◌, ◌-◌, ◌^◌, ◌<◌, ◌≤◌, ◌==◌, if◌then◌else◌, List, [], ◌∷◌, length, Some, slice_get, slice_index_or}

-- the entry at a place of a list, where the end stands behind the last node
abbrev pub here : ℕ → List ℕ → ℕ → ℕ
here end list place = slice_index_or list place end

-- the entry before a place, where the end stands before the first node
abbrev pub before : ℕ → List ℕ → ℕ → ℕ
before end list place = slice_index_or (end ∷ list) place end

-- the neighbours lead through a list, forward and backward
pub record IsRing (nodes : ℕ) (next previous : List ℕ) (end : ℕ) (list : List ℕ) : Type 0 where
  pub below : (place : ℕ) → place < length list → here end list place < nodes
  pub forward : (place : ℕ) → place ≤ length list → slice_index_or next (before end list place) 0 ≡ here end list place
  pub backward : (place : ℕ) → place ≤ length list → slice_index_or previous (here end list place) 0 ≡ before end list place

-- a node on no list
abbrev pub IsFree : List (List ℕ) → ℕ → Type 0
IsFree lists node = (list place : ℕ) → slice_get (slice_index_or lists list []) place ≢ Some node

-- the neighbours lead through each list, and a node on no list leads to itself
pub record AreLinked (nodes : ℕ) (next previous : List ℕ) (lists : List (List ℕ)) : Type 0 where
  pub next_sized : length next ≡ nodes + length lists
  pub previous_sized : length previous ≡ nodes + length lists
  pub small : nodes + length lists < 2 ^ 32
  pub rings : (list : ℕ) → list < length lists → IsRing nodes next previous (nodes + list) (slice_index_or lists list [])
  pub free : (node : ℕ) → node < nodes → IsFree lists node → slice_index_or next node 0 ≡ node

-- the nodes that follow an entry, as far as the end of its list, or as many as the first number says
abbrev pub walk : ℕ → List ℕ → ℕ → ℕ → List ℕ
walk zero next end entry = []
walk (suc steps) next end entry =
    if slice_index_or next entry 0 == end then [] else slice_index_or next entry 0 ∷ walk steps next end (slice_index_or next entry 0)

-- as many lists as the first number says, of which the first has this end
abbrev pub lists_from : ℕ → List ℕ → ℕ → List (List ℕ)
lists_from zero next end = []
lists_from (suc more) next end = walk (length next) next end end ∷ lists_from more next (suc end)

-- the lists that the neighbours stand for
abbrev pub lists_of : ℕ → List ℕ → List (List ℕ)
lists_of nodes next = lists_from (length next - nodes) next nodes
