use Rattle.std.proofs.Common.{◌≡◌, replicate, refl, rules, arith}
use Rattle.std.specs.Prelude.{Option, None}
use Rattle.state_rows.specs.declared.servers.ServerRow.{ServerRow}
use Rattle.state_rows.specs.declared.servers.SessionRow.{SessionRow}
use Rattle.server_table.proofs.Keeping.{kept_new}
use Rattle.server_table.proofs.Sessions.{none_linked}
use Rattle.server_table.proofs.table.ServerTable.new.Goals as goal

pub invariant_of-result : goal.invariant_of-result
invariant_of-result c =
    let servers : c.in_ok-servers.servers.items ≡ replicate {A = Option ServerRow} c.args.objects None = search rules in
    let sessions : c.in_ok-sessions.sessions.items ≡ replicate {A = Option SessionRow} c.args.objects None = search rules in
    rw (c.in_ok-links.ensures, servers, sessions) (kept_new c.args.objects (omega arith))

pub returns : goal.returns
returns c =
    let servers : c.in_ok-servers.servers.items ≡ replicate {A = Option ServerRow} c.args.objects None = search rules in
    let sessions : c.in_ok-sessions.sessions.items ≡ replicate {A = Option SessionRow} c.args.objects None = search rules in
    rw (c.in_ok-links.ensures, servers, sessions, none_linked c.args.objects) refl
