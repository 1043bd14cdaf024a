-- How linked lists of session numbers stand for the sessions of each server.
use Rattle.std.specs.Prelude.{◌≡◌, ℕ, ◌<◌, ◌^◌, List, Option, Some, None, length, map, slice_index_or, IsTrue}
use Rattle.sym_base.specs.declared.number.ObjNo.{ObjNo}
use Rattle.links.specs.Linked.{Linked, holds, list_at}
use Rattle.state_rows.specs.declared.servers.ServerRow.{ServerRow}
use Rattle.state_rows.specs.declared.servers.SessionRow.{SessionRow}
use Rattle.state_rows.specs.declared.servers.ServerRows.{ServerRows}
use Rattle.state_rows.specs.ServerRows.{link_of}

-- the object whose number a node is
abbrev pub object : ℕ → ObjNo
object node = record { 0 = node }

-- the sessions of the lists of nodes
abbrev pub sessions_of : List (List ℕ) → List (List ObjNo)
sessions_of lists = map (map object) lists

-- what the rows and the lists stand for
abbrev pub rows_of : List (Option ServerRow) → List (Option SessionRow) → Linked → ServerRows
rows_of servers sessions links = record { servers = servers; sessions = sessions; linked = sessions_of links.lists }

-- the server of a session's row
abbrev pub link_at : List (Option SessionRow) → ℕ → Option ObjNo
link_at sessions s = link_of (slice_index_or sessions s None)

-- each object has its rows, a list and a node, and a session stands in the list of the server that its row has
pub record AreKept (servers : List (Option ServerRow)) (sessions : List (Option SessionRow)) (links : Linked) : Type 0 where
  pub small : links.nodes < 2 ^ 16
  pub lists : length links.lists ≡ links.nodes
  pub servers_sized : length servers ≡ links.nodes
  pub sessions_sized : length sessions ≡ links.nodes
  pub linked : (server s : ℕ) → IsTrue (holds s (list_at links server)) → link_at sessions s ≡ Some (object server)
  pub listed : (server s : ℕ) → link_at sessions s ≡ Some (object server) → IsTrue (holds s (list_at links server))
