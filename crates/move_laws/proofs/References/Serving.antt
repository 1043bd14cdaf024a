-- What changes of sessions and messages do to the count of an object.
use Rattle.std.proofs.Common.{◌≡◌, ◌+◌, ◌<◌, List, get_or, length, arith, refl, ap, Option, Some, None}
use Rattle.std.specs.Prelude.{option_map, slice_set}
use Rattle.sym_base.specs.declared.number.ObjNo.{ObjNo}
use Rattle.state_rows.specs.ServerChanges.{detached}
use Rattle.state_rows.specs.ServerRows.{link_of}
use Rattle.state_rows.specs.declared.servers.SessionRow.{SessionRow}
use Rattle.machine.specs.References.{option_names, same, session_names, total}
use Rattle.move_laws.proofs.Lists.Totals.{total-set, total-with}

-- a session refers to the server that it is linked to
pub linked_names : (x : Option SessionRow) (o : ObjNo) → session_names o x ≡ option_names o (link_of x)
linked_names None o = refl
linked_names (Some row) o = refl

pub detached_names : (x : Option SessionRow) (o : ObjNo) → session_names o (option_map detached x) ≡ 0
detached_names None o = refl
detached_names (Some row) o = refl

-- all sessions, where one is detached
pub count-detached : (sessions : List (Option SessionRow)) (s o : ObjNo)
    → total (session_names o) (slice_set sessions s.0 (option_map detached (get_or sessions s.0 None))) + option_names o
    (link_of (get_or sessions s.0 None)) ≡ total (session_names o) sessions
count-detached sessions s o =
    let a = total-with (session_names o) (option_map detached) None sessions s.0 refl in
    let b = linked_names (get_or sessions s.0 None) o in
    let c = detached_names (get_or sessions s.0 None) o in omega arith

pub kept_names : (f : SessionRow → SessionRow) → ((row : SessionRow) → (f row).server ≡ row.server)
    → (x : Option SessionRow) (o : ObjNo) → session_names o (option_map f x) ≡ session_names o x
kept_names f keeps None o = refl
kept_names f keeps (Some row) o = ap (option_names o) (keeps row)

-- where the row of one changes but for its server
pub count-session : (sessions : List (Option SessionRow)) (f : SessionRow → SessionRow) (s o : ObjNo)
    → ((row : SessionRow) → (f row).server ≡ row.server)
    → total (session_names o) (slice_set sessions s.0 (option_map f (get_or sessions s.0 None)))
    ≡ total (session_names o) sessions
count-session sessions f s o keeps =
    let a = total-with (session_names o) (option_map f) None sessions s.0 refl in
    let b = kept_names f keeps (get_or sessions s.0 None) o in omega arith

-- where an object becomes a session
pub count-linked : (sessions : List (Option SessionRow)) (s o : ObjNo) (row : SessionRow) → s.0 < length sessions
    → get_or sessions s.0 None ≡ None → row.server ≡ Some o → (p : ObjNo)
    → total (session_names p) (slice_set sessions s.0 (Some row)) ≡ total (session_names p) sessions + same o p
count-linked sessions s o row inside fresh linked p =
    let a = total-set (session_names p) sessions s.0 (Some row) None inside in
    let b : session_names p (get_or sessions s.0 None) ≡ 0 = ap (session_names p) fresh in
    let c : session_names p (Some row) ≡ same o p = ap (option_names p) linked in omega arith
