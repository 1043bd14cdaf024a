-- How linked lists of nodes stand for lists by thread.
use Rattle.std.specs.Prelude.{◌≡◌, ℕ, ◌+◌, ◌/◌, ◌%◌, ◌^◌, ◌<◌, List, length, map, take, slice_index_or}
use Rattle.sym_base.specs.declared.number.ObjNo.{ObjNo}
use Rattle.state_rows.specs.declared.duty.Owed.{Owed}
use Rattle.state_rows.specs.declared.duty.Owed.TheVariants.{Sweep}
use Rattle.links.specs.Linked.{Linked, list_at}

-- the object, and the thread and status, that a node stands for
abbrev pub object : ℕ → ObjNo
object node = record { 0 = node }

abbrev pub logon : ℕ → ObjNo × ℕ
logon node = (record { 0 = node / 16 }, node % 16)

-- the first lists are what threads owe, with the node's row for a node; the others have the nodes that are left
abbrev pub duties_of : ℕ → Linked → List Owed → List (List Owed)
duties_of threads links rows = map (map (λ node. slice_index_or rows node (Sweep (object 0)))) (take threads links.lists)

-- each thread has sixteen nodes, in the list of what it owes or in that of what is left
pub record HavePlaces (threads : ℕ) (links : Linked) (rows : List Owed) : Type 0 where
  pub small : threads < 2 ^ 16
  pub nodes : links.nodes ≡ length rows
  pub lists : length links.lists ≡ threads + threads
  pub places : (t : ℕ) → t < threads → length (list_at links t) + length (list_at links (threads + t)) ≡ 16
