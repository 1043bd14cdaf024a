-- What is left of a thread's death, as a number. Each thing that the thread has weighs more than all that it comes to owe by giving that up, so each action of
-- its own makes it lighter.
use Rattle.std.specs.Prelude.{ℕ, ◌+◌, ◌*◌, ◌<◌, ◌≤◌, if◌then◌else◌, length, List, [], Option, Some, None}
use Rattle.std.specs.List.{slice_index_or}
use Rattle.sym_base.specs.declared.number.ObjNo.{ObjNo}
use Rattle.entry_log.specs.declared.step.Part.{Part}
use Rattle.state_rows.specs.MessageRows.{messages_at}
use Rattle.state_rows.specs.ServerRows.{linked_at}
use Rattle.state_rows.specs.declared.handle_slot.HandleSlot.{HandleSlot}
use Rattle.state_rows.specs.declared.thread.ThreadRow.{ThreadRow}
use Rattle.machine.specs.Holdings.{stage_left}
use Rattle.machine.specs.LogonMoves.{logons_on}
use Rattle.machine.specs.Out.{is_returning}
use Rattle.machine.specs.References.{mutex_names, total}
use Rattle.machine.specs.Rows.{owed_of, table_of, thread_of}
use Rattle.machine.specs.ServerMoves.{owned_by}
use Rattle.machine.specs.WellFormed.{weight}
use Rattle.machine.specs.declared.state.State.{State}

-- the mutexes that a thread holds, and the servers that it owns
abbrev pub mutexes_of : State → ObjNo → List ObjNo
mutexes_of S t = slice_index_or S.synchronization.mutexes t.0 []

abbrev pub servers_of : State → ObjNo → List ObjNo
servers_of S t = owned_by S.serving.owned t

-- how many messages and how many linked sessions a server has, and all servers of a thread
abbrev pub messages_to : State → ObjNo → ℕ
messages_to S o = length (messages_at S.serving.messages o)

abbrev pub links_to : State → ObjNo → ℕ
links_to S o = length (linked_at S.serving.servers o)

abbrev pub messages_left : State → ObjNo → ℕ
messages_left S t = total (messages_to S) (servers_of S t)

abbrev pub links_left : State → ObjNo → ℕ
links_left S t = total (links_to S) (servers_of S t)

-- 1 where something is used, or a place of a table has a handle; and how many handles a table has
abbrev pub use_bit : Option ObjNo → ℕ
use_bit None = 0
use_bit (Some o) = 1

abbrev pub handle_bit : HandleSlot → ℕ
handle_bit slot = use_bit slot.object

abbrev pub handles_in : List HandleSlot → ℕ
handles_in table = total handle_bit table

-- 1 for a thread between a find and its return
abbrev pub find_bit : Option Part → ℕ
find_bit part = if is_returning part then 1 else 0

-- How much a thread weighs: 1 until it is cleaned, 5 for a find without its return, 4 for what its present call uses; what it owes: 1 a sweep, 2 the
-- close of a link, and 4 another close; 5 for each mutex that it holds; 9 for each message of its servers, 1 for each session that is linked to one, and
-- 2 for each server; 4 for each handle of its table, and for each of its process's, also while other threads of that aren't cleaned; and 1 for each
-- logon on it.
abbrev pub weight_of : State → ObjNo → ThreadRow → ℕ
weight_of S t row =
    stage_left row.stage
    + 5 * find_bit row.part
    + 4 * use_bit row.uses
    + total weight (owed_of S t)
    + 5 * length (mutexes_of S t)
    + 9 * messages_left S t
    + links_left S t
    + 2 * length (servers_of S t)
    + 4 * handles_in (table_of S t)
    + 4 * handles_in (table_of S row.process)
    + length (logons_on S.synchronization.logons t)

-- a thread whose row is swept weighs nothing
abbrev pub weight_by : State → ObjNo → Option ThreadRow → ℕ
weight_by S t None = 0
weight_by S t (Some row) = weight_of S t row

abbrev pub weight_in : State → ObjNo → ℕ
weight_in S t = weight_by S t (thread_of S t)

-- a thread comes to hold no mutex and to own no server, and none of its servers comes to have a message or a linked session more
pub record GetsNoMore (S T : State) (t : ObjNo) : Type 0 where
  pub mutexes : (o : ObjNo) → total (mutex_names o) (mutexes_of T t) ≤ total (mutex_names o) (mutexes_of S t)
  pub servers : (o : ObjNo) → total (mutex_names o) (servers_of T t) ≤ total (mutex_names o) (servers_of S t)
  pub messages : (o : ObjNo) → 0 < total (mutex_names o) (servers_of T t) → messages_to T o ≤ messages_to S o
  pub links : (o : ObjNo) → 0 < total (mutex_names o) (servers_of T t) → links_to T o ≤ links_to S o
