use Rattle.std.proofs.Common.{◌≡◌, ◌≤◌, length, drop}
use Rattle.std.specs.Prelude.{slice_get}
use Rattle.std.specs.List.{find}
use Rattle.cleanup.specs.Lists.{list_of}
use Rattle.state_rows.specs.ServerRows.{is_closing}
use Rattle.table_moves.proofs.servers.first_closing.Given as goal

abbrev pub invariant-loop-place : goal.invariant-loop-place
invariant-loop-place l = record {
  at : l.next ≡ slice_get (list_of l.cleanup.servers l.thread) l._place;
  rest : find (is_closing l.servers) (list_of l.cleanup.servers l.thread) ≡ find (is_closing l.servers) (drop l._place (list_of l.cleanup.servers l.thread));
  few : length (list_of l.cleanup.servers l.thread) ≤ l.cleanup.objects;
}
