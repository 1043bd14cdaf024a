use Rattle.std.proofs.Common.{rules}
use Rattle.std.proofs.lemmas.Result.{err_from_is_err_and}
use Rattle.edge_io.proofs.Writing.{prefix_left, wrote_more}
use Rattle.edge_io.proofs.sink.write_whole.Goals as goal

pub returns-in_err-done-clause-front : goal.returns-in_err-done-clause-front
returns-in_err-done-clause-front g c =
    let p = err_from_is_err_and c.from_residual.result c.from_residual.ensures.1 in
    rw p.1 (prefix_left _ _ _ c.loop-done.done _ c.loop-done.invariant.wrote c.in_err-done.ensures.failed)

pub loop-done-preserved : goal.loop-done-preserved
loop-done-preserved g c = record {
  within = search rules;
  wrote = wrote_more _ _ _ c.loop-done.done _ _ c.loop-done.invariant.wrote c.in_ok-done.ensures.moved;
  tells = search rules;
  never_falls = search rules;
}
