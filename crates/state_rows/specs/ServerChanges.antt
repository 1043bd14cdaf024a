-- How the rows of servers and sessions change.
use Rattle.std.specs.Prelude.{◌≡◌, ℕ, Bool, true, false, not, ◌==◌, List, [], ◌∷◌, ◌++◌, Option, Some, None, option_map, filter, replicate, slice_index_or, slice_set}
use Rattle.sym_base.specs.declared.number.ObjNo.{ObjNo}
use Rattle.sym_base.specs.declared.kind.Slots.{Slots}
use Rattle.state_rows.specs.declared.servers.Connection.{Connection}
use Rattle.state_rows.specs.declared.servers.Connection.TheVariants.{New, Open, Closed}
use Rattle.state_rows.specs.declared.servers.ServerRow.{ServerRow}
use Rattle.state_rows.specs.declared.servers.SessionRow.{SessionRow}
use Rattle.state_rows.specs.declared.servers.ServerRows.{ServerRows}
use Rattle.state_rows.specs.ServerRows.{server_at, session_at, linked_at, server_of}

-- so many objects, of which none is a server or a session
abbrev pub no_rows : ℕ → ServerRows
no_rows objects = record { servers = replicate objects None; sessions = replicate objects None; linked = replicate objects [] }

-- no session is linked to an object, and it is linked to no server
pub record IsAlone (rows : ServerRows) (o : ObjNo) : Type 0 where
  pub no_session : linked_at rows o ≡ []
  pub no_server : server_of rows o ≡ None

-- the object is a server that isn't closing, and no session
abbrev pub after_add_server : ServerRows → ObjNo → ObjNo → ServerRows
after_add_server rows o owner =
    record rows { servers = slice_set rows.servers o.0 (Some (record { owner = owner; is_closing = false })); sessions = slice_set rows.sessions o.0 None }

-- the row of a session that isn't open yet
abbrev pub new_session : ObjNo → Slots → ObjNo → SessionRow
new_session server slots client = record { server = Some server; slots = slots; client = client; connection = New }

-- the object is such a session, and no server; it stands behind the server's other sessions
abbrev pub after_add_session : ServerRows → ObjNo → ObjNo → Slots → ObjNo → ServerRows
after_add_session rows s server slots client =
    record {
      servers = slice_set rows.servers s.0 None;
      sessions = slice_set rows.sessions s.0 (Some (new_session server slots client));
      linked = slice_set rows.linked server.0 (linked_at rows server ++ s ∷ []);
    }

-- the server is closing, with the owner that it had
abbrev pub closing : ServerRow → ServerRow
closing row = record row { is_closing = true }

abbrev pub after_closing : ServerRows → ObjNo → ServerRows
after_closing rows server = record rows { servers = slice_set rows.servers server.0 (option_map closing (server_at rows server)) }

-- the session is linked to no server
abbrev pub detached : SessionRow → SessionRow
detached row = record row { server = None }

-- some sessions without one
abbrev pub without : ObjNo → List ObjNo → List ObjNo
without s sessions = filter (λ other. not (other.0 == s.0)) sessions

-- the sessions of all servers, of which one server has one less
abbrev pub unlisted : Option ObjNo → ObjNo → List (List ObjNo) → List (List ObjNo)
unlisted None s linked = linked
unlisted (Some server) s linked = slice_set linked server.0 (without s (slice_index_or linked server.0 []))

abbrev pub after_detach : ServerRows → ObjNo → ServerRows
after_detach rows s =
    record rows { sessions = slice_set rows.sessions s.0 (option_map detached (session_at rows s)); linked = unlisted (server_of rows s) s rows.linked }

-- the session was opened, or closed, and keeps the rest of its row
abbrev pub connected : Bool → Connection
connected true = Open
connected false = Closed

abbrev pub opened : Bool → SessionRow → SessionRow
opened to row = record row { connection = connected to }

abbrev pub after_set_open : ServerRows → ObjNo → Bool → ServerRows
after_set_open rows s to = record rows { sessions = slice_set rows.sessions s.0 (option_map (opened to) (session_at rows s)) }

-- the object is no server and no session, and none is linked to it
abbrev pub after_sweep : ServerRows → ObjNo → ServerRows
after_sweep rows o =
    record { servers = slice_set rows.servers o.0 None; sessions = slice_set rows.sessions o.0 None; linked = slice_set rows.linked o.0 [] }
