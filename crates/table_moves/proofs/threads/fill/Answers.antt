use Rattle.std.proofs.Common.{sym, ◌∙◌}
use Rattle.machine.specs.Memory.{filled}
use Rattle.table_moves.proofs.Filling.{changed_there, changed_nowhere}
use Rattle.table_moves.proofs.threads.fill.Goals as goal

pub returns-then-is_process : goal.returns-then-is_process
returns-then-is_process c =
    c.fill.ensures
    ∙ changed_there c.args.procs.now c.args.process (filled c.args.at c.args.length c.args.byte) (sym c.is_process.ensures ∙ c.if-is_process.true)

pub returns-else-is_process : goal.returns-else-is_process
returns-else-is_process c =
    changed_nowhere c.args.procs.now c.args.process (filled c.args.at c.args.length c.args.byte) (sym c.is_process.ensures ∙ c.if-is_process.false)
