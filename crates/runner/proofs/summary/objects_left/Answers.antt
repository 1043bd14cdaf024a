use Rattle.std.proofs.Common.{false, ◌<◌, ap, arith, length}
use Rattle.history_check.proofs.LeftRows.{row_number, few_rows}
use Rattle.runner.proofs.summary.objects_left.Goals as goal

pub overflow_add-objects : goal.overflow_add-objects
overflow_add-objects c =
    let script = c.args.schedule.now.script in
    let history = c.args.schedule.now.history in
    omega (arith, ap length c.in-Some.ensures, few_rows false script history c.requires)

pub overflow_add-from : goal.overflow_add-from
overflow_add-from c =
    let small : c.in-Some.row.object.0 < 4096 = row_number false c.args.schedule.now.script c.args.schedule.now.history
    c.loop-row.from c.in-Some.row _ c.requires c.in-Some.ensures in
    omega arith

pub loop-row-preserved : goal.loop-row-preserved
loop-row-preserved c = omega (arith, ap length c.in-Some.ensures)

pub loop-row-smaller : goal.loop-row-smaller
loop-row-smaller c = omega (arith, ap length c.in-Some.ensures)
