use Rattle.std.proofs.Common.{rules, ◌<◌, ◌+◌, ◌∙◌, arith}
use Rattle.std.proofs.lemmas.Result.{err_from_is_err_and}
use Rattle.std.specs.List.{flat_map}
use Rattle.edge_io.proofs.Writing.{all_but_next, all_but_prefix}
use Rattle.entry_log.specs.FinalLine.{final_line}
use Rattle.machine.specs.FinalRows.{rows_from}
use Rattle.runner.proofs.Alone.{suits-split}
use Rattle.history_check.proofs.LeftRows.{row_number}
use Rattle.runner.proofs.Texts.{next_line}
use Rattle.runner.specs.RunText.{is_split, state_after}
use Rattle.runner.proofs.output.write_rows.Goals as goal

pub returns-in_err-write_whole-clause-front : goal.returns-in_err-write_whole-clause-front
returns-in_err-write_whole-clause-front g c =
    let p = err_from_is_err_and c.from_residual.result c.from_residual.ensures.1 in
    let S = state_after c.args.kernel.now in
    let shared = is_split c.args.kernel.now.mode in
    let next = c.in-Some.ensures shared (suits-split c.args.kernel.now.mode) in
    let rest = rows_from S (c.in-Some.row.object.0 + 1) in
    rw p.1 (all_but_prefix _ _ _ _ _ (flat_map final_line rest) _ c.loop-row.invariant.all
    (next_line final_line (rows_from S c.loop-row.from) rest c.in-Some.row c.as_slice.result.now next
    (c.as_slice.ensures.value ∙ c.put_row.ensures)) c.in_err-write_whole.ensures.front)

pub overflow_add-from : goal.overflow_add-from
overflow_add-from g c =
    let shared = is_split c.args.kernel.now.mode in
    let next = c.in-Some.ensures shared (suits-split c.args.kernel.now.mode) in
    let small : c.in-Some.row.object.0 < 4096 = row_number shared c.args.kernel.now.script c.args.kernel.now.history
    c.loop-row.from c.in-Some.row _ c.requires.valid next in
    omega arith

pub loop-row-preserved : goal.loop-row-preserved
loop-row-preserved g c =
    let S = state_after c.args.kernel.now in
    let shared = is_split c.args.kernel.now.mode in
    let next = c.in-Some.ensures shared (suits-split c.args.kernel.now.mode) in
    let rest = rows_from S (c.in-Some.row.object.0 + 1) in
    record {
      all =
          all_but_next _ _ _ _ _ (flat_map final_line rest) _ c.loop-row.invariant.all
          (next_line final_line (rows_from S c.loop-row.from) rest c.in-Some.row c.as_slice.result.now next
          (c.as_slice.ensures.value ∙ c.put_row.ensures)) c.in_ok-write_whole.ensures.whole;
      tells = search rules;
      never_falls = search rules;
    }
