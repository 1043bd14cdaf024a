-- How linked lists, priorities by thread and a word of bits stand for the queues of ready threads.
use Rattle.std.specs.Prelude.{◌≡◌, ℕ, ◌<◌, ◌^◌, List, [], ◌∷◌, length, map}
use Rattle.std.specs.Int.{bit_at}
use Rattle.sym_base.specs.declared.number.ObjNo.{ObjNo}
use Rattle.links.specs.Linked.{Linked, list_at}
use Rattle.links.specs.Owned.{AreOwned}

-- the thread whose number a node is
abbrev pub thread : ℕ → ObjNo
thread node = record { 0 = node }

-- the queues of the lists of nodes
abbrev pub queues_of : List (List ℕ) → List (List ObjNo)
queues_of lists = map (map thread) lists

-- the bit of a list: 0 where it is empty
abbrev pub mark : List ℕ → ℕ
mark [] = 0
mark (node ∷ rest) = 1

-- each thread in a list has that list's priority, and each bit says whether the list of its priority has a node
pub record AreKept (threads : ℕ) (links : Linked) (priorities : List ℕ) (mask : ℕ) : Type 0 where
  pub small : threads < 2 ^ 16
  pub nodes : links.nodes ≡ threads
  pub lists : length links.lists ≡ 64
  pub owned : AreOwned links priorities
  pub marks : (p : ℕ) → p < 64 → bit_at mask p ≡ mark (list_at links p)
