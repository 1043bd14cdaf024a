-- An action under way: how it starts, goes on by several moves, and ends. It only serves proofs.
use Rattle.std.specs.Prelude.{ℤ, List, [], ◌++◌, Option}
use Rattle.sym_base.specs.declared.number.ObjNo.{ObjNo}
use Rattle.script_types.specs.declared.script.Script.{Script}
use Rattle.entry_log.specs.declared.step.Step.{Step}
use Rattle.machine.specs.declared.decision.Outcome.{Outcome}
use Rattle.machine.specs.declared.moves.Move.{Move}
use Rattle.machine.specs.declared.state.State.{State}
use Rattle.machine.specs.Arrivals.{arrivals}
use Rattle.machine.specs.Moves.{tell}
use Rattle.plain_machine.specs.declared.course.Course.{Course}

-- nothing is told yet
abbrev pub new_course : List ObjNo → Course
new_course qs = record { effects = []; ready = qs }

-- several moves later
abbrev pub course_after : Script → ObjNo → List Move → State → Course → Course
course_after script t moves S c = record { effects = c.effects ++ tell t moves S; ready = arrivals script t moves S c.ready }

-- the action is over, and this is told of it
abbrev pub told_at_end : Course → Step → Option ℤ → Outcome
told_at_end c step answer = record { step = step; effects = c.effects; answer = answer }
