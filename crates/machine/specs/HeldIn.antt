-- Who holds what in a state. References aren't rows of their own: they are read off the other rows.
use Rattle.std.specs.Prelude.{ℕ, ◌+◌, if◌then◌else◌, Bool, true, false, not, is_some, List, [], Option, Some, None}
use Rattle.std.specs.List.{slice_index_or}
use Rattle.sym_base.specs.declared.number.ObjNo.{ObjNo}
use Rattle.entry_log.specs.declared.effect.Holder.{Holder}
use Rattle.entry_log.specs.declared.effect.Holder.TheVariants.{InProcess, InThread, Temp, Own, Link, Message as OfMessage, Kernel}
use Rattle.state_rows.specs.declared.duty.Owed.{Owed}
use Rattle.state_rows.specs.declared.duty.Owed.TheVariants.{Close, Sweep}
use Rattle.state_rows.specs.declared.handle_slot.HandleSlot.{HandleSlot}
use Rattle.state_rows.specs.declared.thread.ThreadRow.{ThreadRow}
use Rattle.machine.specs.declared.state.State.{State}
use Rattle.sym_base.specs.declared.number.MsgNo.{MsgNo}
use Rattle.state_rows.specs.declared.servers.SessionRow.{SessionRow}
use Rattle.state_rows.specs.declared.messages.Message.{Message}
use Rattle.state_rows.specs.MessageRows.{has_number}
use Rattle.state_rows.specs.HandleSlots.{slot_at}
use Rattle.machine.specs.References.{total, option_names, slot_names, mutex_names, session_names, message_names, kernel_holds}
use Rattle.machine.specs.Holding.{same_pair, link_names}

-- a slot refers to the object there, unless its table is of the other kind than the holder's
abbrev pub own_slot : Bool → ObjNo → HandleSlot → ℕ
own_slot true x slot = 0
own_slot false x slot = slot_names x slot

-- the object that a thread uses
abbrev pub use_names : ObjNo → Option ThreadRow → ℕ
use_names x None = 0
use_names x (Some row) = option_names x row.uses

-- The references of the tables, the threads' rows and the mutexes that threads hold: a handle of a process is in the
-- table of a number that is no thread's, and one of a thread in a thread's.
abbrev pub rows_hold : List (List HandleSlot) → List (Option ThreadRow) → List (List ObjNo) → Holder → ObjNo → ℕ
rows_hold tables threads mutexes (InProcess p i) x = own_slot (is_some (slice_index_or threads p.0 None)) x (slot_at (slice_index_or tables p.0 []) i)
rows_hold tables threads mutexes (InThread t i) x = own_slot (not (is_some (slice_index_or threads t.0 None))) x (slot_at (slice_index_or tables t.0 []) i)
rows_hold tables threads mutexes (Temp t) x = use_names x (slice_index_or threads t.0 None)
rows_hold tables threads mutexes (Link t) x = link_names x (slice_index_or threads t.0 None)
rows_hold tables threads mutexes (Own t) x = total (mutex_names x) (slice_index_or mutexes t.0 [])
rows_hold tables threads mutexes Kernel x = kernel_holds (slice_index_or threads x.0 None)
rows_hold tables threads mutexes _ x = 0

-- an owed close stands for its holder's reference
abbrev pub owed_by : Holder → ObjNo → Owed → ℕ
owed_by g x (Close h o) = same_pair h o g x
owed_by g x (Sweep o) = 0

-- the references of a message of this number
abbrev pub message_holds : MsgNo → ObjNo → Message → ℕ
message_holds m x message = if has_number m message then message_names x message else 0

-- the references of servers, sessions and messages: a thread owns its servers, and a session has a link to its server
abbrev pub servers_hold : List (List ObjNo) → List (Option SessionRow) → List Message → Holder → ObjNo → ℕ
servers_hold owned sessions outstanding (Own t) x = total (mutex_names x) (slice_index_or owned t.0 [])
servers_hold owned sessions outstanding (Link s) x = session_names x (slice_index_or sessions s.0 None)
servers_hold owned sessions outstanding (OfMessage m) x = total (message_holds m x) outstanding
servers_hold owned sessions outstanding _ x = 0

-- how many references a holder has to an object: those of the rows, and those that its owed closes stand for
abbrev pub held_in : State → Holder → ObjNo → ℕ
held_in S g x =
    rows_hold S.references.handles S.references.threads S.synchronization.mutexes g x + total
    (total (owed_by g x)) S.references.owed + servers_hold S.serving.owned S.serving.servers.sessions
    S.serving.messages.outstanding g x
