-- Moves in the rows of servers and sessions: what each changes, and what it tells.
use Rattle.std.specs.Prelude.{Bool, if◌then◌else◌, List, [], ◌∷◌, ◌++◌, Option, None, option_map, slice_set}
use Rattle.std.specs.List.{slice_index_or}
use Rattle.sym_base.specs.declared.number.ObjNo.{ObjNo}
use Rattle.entry_log.specs.declared.effect.Effect.{Effect}
use Rattle.entry_log.specs.declared.effect.Effect.TheVariants.{Plus, Terminated}
use Rattle.entry_log.specs.declared.effect.Holder.{Holder}
use Rattle.entry_log.specs.declared.effect.Holder.TheVariants as holder
use Rattle.state_rows.specs.Locks.{without}
use Rattle.state_rows.specs.declared.servers.ServerRows.{ServerRows}
use Rattle.state_rows.specs.declared.servers.SessionRow.{SessionRow}
use Rattle.state_rows.specs.ServerRows.{server_of}
use Rattle.state_rows.specs.ServerChanges.{after_add_server, after_add_session, after_closing, after_detach, after_set_open, detached, unlisted}
use Rattle.machine.specs.declared.server_move.ServerMove.{ServerMove}
use Rattle.machine.specs.declared.server_move.ServerMove.TheVariants.{Start, Join, Close, CloseAll, SetOpen, End}

-- the servers that a thread owns, in order of making
abbrev pub owned_by : List (List ObjNo) → ObjNo → List ObjNo
owned_by owned t = slice_index_or owned t.0 []

-- the rows where some servers are closing
abbrev pub all_closing : List ObjNo → ServerRows → ServerRows
all_closing [] r = r
all_closing (o ∷ os) r = all_closing os (after_closing r o)

-- the rows after a move, where threads own these servers
abbrev pub servers_moved : ServerMove → List (List ObjNo) → ServerRows → ServerRows
servers_moved (Start o t) owned r = after_add_server r o t
servers_moved (Join s o slots t) owned r = after_add_session r s o slots t
servers_moved (Close o) owned r = after_closing r o
servers_moved (CloseAll t) owned r = all_closing (owned_by owned t) r
servers_moved (SetOpen s to) owned r = after_set_open r s to
servers_moved (End o) owned r = r

-- what it tells: a session's link to its server, and the end of a server
abbrev pub server_told : ServerMove → List Effect
server_told (Join s o slots t) = Plus (holder.Link s) o ∷ []
server_told (End o) = Terminated o ∷ []
server_told _ = []

-- the servers that threads own, where a holder gets a reference, and where it gives it up
abbrev pub owned_gain : Holder → ObjNo → List (List ObjNo) → List (List ObjNo)
owned_gain (holder.Own t) o owned = slice_set owned t.0 (owned_by owned t ++ o ∷ [])
owned_gain _ o owned = owned

abbrev pub owned_lose : Holder → ObjNo → List (List ObjNo) → List (List ObjNo)
owned_lose (holder.Own t) o owned = slice_set owned t.0 (without o (owned_by owned t))
owned_lose _ o owned = owned

-- the rows where a holder gives its reference up: the link of a session goes
abbrev pub servers_lose : Holder → ServerRows → ServerRows
servers_lose (holder.Link s) r = after_detach r s
servers_lose _ r = r

-- a session that dies as a reference is given up is linked to no server any more
abbrev pub sessions_closed : Bool → ObjNo → List (Option SessionRow) → List (Option SessionRow)
sessions_closed dying o sessions = if dying then slice_set sessions o.0 (option_map detached (slice_index_or sessions o.0 None)) else sessions

abbrev pub linked_closed : Bool → Option ObjNo → ObjNo → List (List ObjNo) → List (List ObjNo)
linked_closed dying server o linked = if dying then unlisted server o linked else linked

abbrev pub servers_closed : Bool → ObjNo → ServerRows → ServerRows
servers_closed dying o r = record r { sessions = sessions_closed dying o r.sessions; linked = linked_closed dying (server_of r o) o r.linked }
