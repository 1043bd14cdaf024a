use Rattle.std.proofs.Common.{◌<◌, List, ap, arith, length, subst, sym}
use Rattle.entry_log.specs.declared.entry.FinalRow.{FinalRow}
use Rattle.history_check.proofs.LeftRows.{few_rows, row_number}
use Rattle.history_check.proofs.ToldRows.{row_missing, told_bad, told_end, told_few, told_more, told_start}
use Rattle.history_check.specs.Rows.{IsBadFrom, row_lines}
use Rattle.history_check.proofs.rows.bad_row.Goals as goal

pub loop-row-init : goal.loop-row-init
loop-row-init c = told_start _ c.args.text.now c.args.line

pub overflow_add-line : goal.overflow_add-line
overflow_add-line c =
    let plain = c.args.plain.now in
    let few = few_rows plain.shared plain.script plain.history c.requires.valid in
    let first = c.requires.few in
    omega (arith, told_few c.loop-row.invariant)

pub overflow_add-from : goal.overflow_add-from
overflow_add-from c =
    let plain = c.args.plain.now in
    let small : c.in-Some.row.object.0 < 4096 = row_number plain.shared plain.script plain.history c.loop-row.from
    c.in-Some.row _ c.requires.valid c.in-Some.ensures in
    omega arith

pub loop-row-preserved : goal.loop-row-preserved
loop-row-preserved c =
    told_more c.in-Some.row _ c.in-Some-behind_row.rest.now c.loop-row.invariant c.in-Some.ensures c.known_row.ensures
    c.in-Some-behind_row.ensures

pub loop-row-smaller : goal.loop-row-smaller
loop-row-smaller c = omega (arith, ap length c.in-Some.ensures)

pub returns-in-None : goal.returns-in-None
returns-in-None c =
    told_bad c.loop-row.line c.loop-row.invariant
    (subst (λ (left : List FinalRow). IsBadFrom (row_lines left) c.loop-row.rest.now c.loop-row.line c.loop-row.line)
    (sym c.in-Some.ensures) (row_missing c.in-Some.row _ c.loop-row.rest.now c.loop-row.line c.known_row.ensures
    c.in-None.ensures))

pub bad_end-requires : goal.bad_end-requires
bad_end-requires c =
    let plain = c.args.plain.now in
    let few = few_rows plain.shared plain.script plain.history c.requires.valid in
    let first = c.requires.few in
    omega (arith, told_few c.loop-row.invariant)

pub returns : goal.returns
returns c = told_end c.bad_end.result c.loop-row.invariant c.in_default.ensures c.bad_end.ensures
