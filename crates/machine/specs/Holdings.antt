-- What a doomed thread still has, as one list: filtered from the rows, in the order in which it gives it up.
use Rattle.std.specs.Prelude.{ℕ, ◌+◌, ◌==◌, Bool, if◌then◌else◌, map, List, [], ◌∷◌, ◌++◌, Option, Some, None}
use Rattle.std.specs.List.{slice_index_or}
use Rattle.sym_base.specs.declared.number.ObjNo.{ObjNo}
use Rattle.entry_log.specs.declared.effect.Holder.{Holder}
use Rattle.entry_log.specs.declared.effect.Holder.TheVariants.{InProcess, InThread}
use Rattle.state_rows.specs.declared.duty.Held.{Held}
use Rattle.state_rows.specs.declared.duty.Held.TheVariants as held
use Rattle.state_rows.specs.declared.handle_slot.HandleSlot.{HandleSlot}
use Rattle.state_rows.specs.declared.thread.Stage.{Stage}
use Rattle.state_rows.specs.declared.thread.Stage.TheVariants.{Live, Doomed, Cleaned, Buried}
use Rattle.state_rows.specs.declared.thread.ThreadRow.{ThreadRow}
use Rattle.machine.specs.declared.holding.Holding.{Holding}
use Rattle.machine.specs.declared.holding.Holding.TheVariants.{Mutex, Message as OfMessage, Link as OfLink, Server as OfServer, Use, Handle, Logon}
use Rattle.state_rows.specs.declared.messages.Message.{Message}
use Rattle.state_rows.specs.MessageRows.{messages_at}
use Rattle.state_rows.specs.ServerRows.{linked_at, is_closing}
use Rattle.machine.specs.declared.state.State.{State}
use Rattle.machine.specs.ServerMoves.{owned_by}
use Rattle.machine.specs.References.{total}
use Rattle.machine.specs.Rows.{table_of, thread_of}
use Rattle.machine.specs.LogonMoves.{logons_on}
use Rattle.machine.specs.Moves.{use_of}

-- the mutexes that a thread holds, in order of taking
abbrev pub held_mutexes : State → ObjNo → List Holding
held_mutexes S t = map (λ o. Mutex o) (slice_index_or S.synchronization.mutexes t.0 [])

-- what an owner has of its closing servers, one server after the other in order of making: the messages in order of acceptance, the
-- linked sessions in order of making, and then the server itself
abbrev pub server_holdings : State → ObjNo → List Holding
server_holdings S o =
    map (λ (m : Message). OfMessage m.number) (messages_at S.serving.messages o) ++ map (λ s. OfLink s o) (linked_at S.serving.servers o) ++ OfServer o ∷ []

abbrev pub closing_holdings : State → List ObjNo → List Holding
closing_holdings S [] = []
closing_holdings S (o ∷ os) = (if is_closing S.serving.servers o then server_holdings S o else []) ++ closing_holdings S os

abbrev pub held_servers : State → ObjNo → List Holding
held_servers S t = closing_holdings S (owned_by S.serving.owned t)

-- what its present call uses, if it uses anything
abbrev pub held_use : Option ObjNo → List Holding
held_use None = []
held_use (Some o) = Use o ∷ []

-- the handles of a table by index, from an index on
abbrev pub held_slot : Holder → Option ObjNo → List Holding
held_slot h None = []
held_slot h (Some o) = Handle h o ∷ []

abbrev pub held_handles : (ℕ → Holder) → ℕ → List HandleSlot → List Holding
held_handles holder i [] = []
held_handles holder i (slot ∷ rest) = held_slot (holder i) slot.object ++ held_handles holder (i + 1) rest

-- the first of the handles of a table: its index, and its object
abbrev pub first_here : ℕ → Option ObjNo → Option (ℕ × ObjNo) → Option (ℕ × ObjNo)
first_here i None other = other
first_here i (Some o) other = Some (i, o)

abbrev pub first_used : ℕ → List HandleSlot → Option (ℕ × ObjNo)
first_used i [] = None
first_used i (slot ∷ rest) = first_here i slot.object (first_used (i + 1) rest)

-- 1 where a thread isn't cleaned yet, else 0, and likewise where it is a thread of this process
abbrev pub stage_left : Stage → ℕ
stage_left Live = 1
stage_left Doomed = 1
stage_left Cleaned = 0
stage_left Buried = 0

abbrev pub left_of : ObjNo → Option ThreadRow → ℕ
left_of p None = 0
left_of p (Some row) = if row.process.0 == p.0 then stage_left row.stage else 0

abbrev pub has_one_left : State → ObjNo → Bool
has_one_left S p = total (left_of p) S.references.threads == 1

-- the handles of its process are given up by a thread where no other thread of it is left
abbrev pub process_handles : State → ObjNo → ObjNo → List Holding
process_handles S t p = if total (left_of p) S.references.threads == left_of p (thread_of S t) then held_handles (InProcess p) 0 (table_of S p) else []

-- the logons on it, in order of making
abbrev pub held_logons : State → ObjNo → List Holding
held_logons S t = map (λ (logon : ObjNo × ℕ). Logon logon.0 logon.1) (logons_on S.synchronization.logons t)

-- what of it isn't a handle
abbrev pub use_held : Option ObjNo → List Held
use_held None = []
use_held (Some o) = held.Temp o ∷ []

abbrev pub held_of : State → ObjNo → List Held
held_of S t =
    map (λ o. held.Mutex o) (slice_index_or S.synchronization.mutexes t.0 [])
    ++ map (λ o. held.Server o) (owned_by S.serving.owned t)
    ++ use_held (use_of S t)
    ++ map (λ (logon : ObjNo × ℕ). held.Logon logon.0 logon.1) (logons_on S.synchronization.logons t)

-- what the thread of a row still has
abbrev pub holdings : State → ObjNo → ThreadRow → List Holding
holdings S t row =
    held_mutexes S t
    ++ held_servers S t
    ++ held_use row.uses
    ++ held_handles (InThread t) 0 (table_of S t)
    ++ process_handles S t row.process
    ++ held_logons S t
