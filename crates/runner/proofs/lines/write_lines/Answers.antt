use Rattle.std.proofs.Common.{rules}
use Rattle.std.proofs.lemmas.Result.{err_from_is_err_and}
use Rattle.edge_io.proofs.Writing.{all_but_next, all_but_prefix}
use Rattle.runner.proofs.lines.write_lines.Goals as goal

pub returns-in_err-write_whole-clause-front : goal.returns-in_err-write_whole-clause-front
returns-in_err-write_whole-clause-front g c =
    let p = err_from_is_err_and c.from_residual.result c.from_residual.ensures.1 in
    rw p.1 (all_but_prefix _ _ _ _ _ c.first_line.result.1.now _ c.loop-rest.invariant.all c.first_line.ensures.whole c.in_err-write_whole.ensures.front)

pub loop-rest-preserved : goal.loop-rest-preserved
loop-rest-preserved g c = record {
  all = all_but_next _ _ _ _ _ _ _ c.loop-rest.invariant.all c.first_line.ensures.whole c.in_ok-write_whole.ensures.whole;
  tells = search rules;
  never_falls = search rules;
}
