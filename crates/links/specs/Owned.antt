-- For each node, which list it stands on.
use Rattle.std.specs.Prelude.{◌≡◌, ℕ, ◌<◌, List, All, length, slice_index_or}
use Rattle.links.specs.Linked.{Linked, list_at}

-- each node on a list has the list's number
pub record AreOwned (links : Linked) (owners : List ℕ) : Type 0 where
  pub sized : length owners ≡ links.nodes
  pub own : (list : ℕ) → list < length links.lists → All (λ node. slice_index_or owners node 0 ≡ list) (list_at links list)
