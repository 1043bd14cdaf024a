-- How linked lists of thread numbers stand for the waiters.
use Rattle.std.specs.Prelude.{◌≡◌, ℕ, ◌<◌, ◌^◌, List, Option, length, map}
use Rattle.sym_base.specs.declared.number.ObjNo.{ObjNo}
use Rattle.links.specs.Linked.{Linked}
use Rattle.state_rows.specs.declared.locks.Owner.{Owner}
use Rattle.kern_sync.specs.KernelLocks.{KernelLocks}

-- the thread whose number a node is
abbrev pub thread : ℕ → ObjNo
thread node = record { 0 = node }

-- the waiters of the lists of nodes
abbrev pub queues_of : List (List ℕ) → List (List ObjNo)
queues_of lists = map (map thread) lists

-- what the rows and the lists stand for
abbrev pub locks_of : List (Option Owner) → List ℕ → List ℕ → Linked → KernelLocks
locks_of owners counts priorities links = record {
  rows = record { owners = owners; counts = counts; waiters = queues_of links.lists };
  priorities = priorities;
}

-- each object has its owner, count and list, and each node is a thread and has its priority
pub record AreKept (owners : List (Option Owner)) (counts priorities : List ℕ) (links : Linked) : Type 0 where
  pub small : links.nodes < 2 ^ 16
  pub lists : length links.lists ≡ length owners
  pub counted : length counts ≡ length owners
  pub weighed : length priorities ≡ links.nodes
