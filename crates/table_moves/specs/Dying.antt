-- Rows of threads that die: one whose wait is over, one with an exit, and one at a stage of its death.
use Rattle.std.specs.Prelude.{Some}
use Rattle.sym_base.specs.declared.kind.Exit.{Exit}
use Rattle.state_rows.specs.declared.thread.Stage.{Stage}
use Rattle.state_rows.specs.declared.thread.ThreadRow.{ThreadRow}
use Rattle.state_rows.specs.declared.thread.Waiting.TheVariants.{Nothing}

abbrev pub waited : ThreadRow → ThreadRow
waited row = record row { waiting = Nothing }

abbrev pub with_exit : Exit → ThreadRow → ThreadRow
with_exit exit row = record row { exit = Some exit }

abbrev pub with_stage : Stage → ThreadRow → ThreadRow
with_stage stage row = record row { stage = stage }
