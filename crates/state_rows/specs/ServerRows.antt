-- Servers, sessions and their links, as lists.
use Rattle.std.specs.Prelude.{Bool, true, false, not, ◌==◌, List, [], Option, None, Some, option_map, slice_index_or, IsSome}
use Rattle.std.specs.List.{list_any}
use Rattle.sym_base.specs.declared.number.ObjNo.{ObjNo}
use Rattle.state_rows.specs.declared.servers.Connection.{Connection}
use Rattle.state_rows.specs.declared.servers.Connection.TheVariants.{New, Open}
use Rattle.state_rows.specs.declared.servers.ServerRow.{ServerRow}
use Rattle.state_rows.specs.declared.servers.SessionRow.{SessionRow}
use Rattle.state_rows.specs.declared.servers.ServerRows.{ServerRows}

-- the row of a server
abbrev pub server_at : ServerRows → ObjNo → Option ServerRow
server_at rows o = slice_index_or rows.servers o.0 None

abbrev pub IsServer : ServerRows → ObjNo → Type 0
IsServer rows o = IsSome (server_at rows o)

-- the row of a session
abbrev pub session_at : ServerRows → ObjNo → Option SessionRow
session_at rows o = slice_index_or rows.sessions o.0 None

abbrev pub IsSession : ServerRows → ObjNo → Type 0
IsSession rows o = IsSome (session_at rows o)

-- the sessions that are linked to a server, the one that was made first first
abbrev pub linked_at : ServerRows → ObjNo → List ObjNo
linked_at rows o = slice_index_or rows.linked o.0 []

-- the thread that owns a server
abbrev pub owner_of : ServerRows → ObjNo → Option ObjNo
owner_of rows o = option_map (λ row. row.owner) (server_at rows o)

-- whether a server is closing
abbrev pub closes : Option ServerRow → Bool
closes None = false
closes (Some row) = row.is_closing

abbrev pub is_closing : ServerRows → ObjNo → Bool
is_closing rows o = closes (server_at rows o)

-- the server that a session is linked to
abbrev pub link_of : Option SessionRow → Option ObjNo
link_of None = None
link_of (Some row) = row.server

abbrev pub server_of : ServerRows → ObjNo → Option ObjNo
server_of rows s = link_of (session_at rows s)

-- whether a session was opened and not closed since
abbrev pub is_open : Connection → Bool
is_open Open = true
is_open _ = false

abbrev pub was_opened : Option SessionRow → Bool
was_opened None = false
was_opened (Some row) = is_open row.connection

-- whether a session is to be opened
abbrev pub is_new : Connection → Bool
is_new New = true
is_new _ = false

abbrev pub is_to_open : Option SessionRow → Bool
is_to_open None = false
is_to_open (Some row) = is_new row.connection

-- whether there is a server and it isn't closing
abbrev pub accepts : ServerRows → Option ObjNo → Bool
accepts rows None = false
accepts rows (Some server) = not (is_closing rows server)

-- whether a session is among some
abbrev pub holds : ObjNo → List ObjNo → Bool
holds s sessions = list_any (λ other. other.0 == s.0) sessions
