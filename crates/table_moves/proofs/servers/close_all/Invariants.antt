use Rattle.std.proofs.Common.{◌≡◌, ◌≤◌, length, drop}
use Rattle.std.specs.Prelude.{slice_get}
use Rattle.cleanup.specs.Lists.{list_of}
use Rattle.machine.specs.ServerMoves.{all_closing}
use Rattle.sym_base.specs.declared.number.ObjNo.{ObjNo}
use Rattle.state_rows.specs.ServerRows.{IsServer}
use Rattle.table_moves.proofs.servers.close_all.Given as goal

abbrev pub invariant-loop-place : goal.invariant-loop-place
invariant-loop-place l = record {
  at : l.next ≡ slice_get (list_of l.cleanup.servers l.thread) l._place;
  rest : all_closing (list_of l.cleanup.servers l.thread) l.initial.servers ≡ all_closing (drop l._place (list_of l.cleanup.servers l.thread)) l.servers;
  few : length (list_of l.cleanup.servers l.thread) ≤ l.cleanup.objects;
  kept : (o : ObjNo) → IsServer l.initial.servers o → IsServer l.servers o;
}
