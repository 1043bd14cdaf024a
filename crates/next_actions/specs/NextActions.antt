-- What a thread does next, where the step of an instruction isn't decided yet, nor what ends a thread, reaps it or buries it.
use Rattle.std.specs.Prelude.{◌≡◌, false, List, [], ◌∷◌, Bool, true, Option, Some, None}
use Rattle.sym_base.specs.declared.number.ObjNo.{ObjNo}
use Rattle.script_types.specs.declared.script.Script.{Script}
use Rattle.state_rows.specs.Nano.{is_protected}
use Rattle.state_rows.specs.declared.thread.Stage.TheVariants.{Live, Doomed}
use Rattle.state_rows.specs.declared.thread.ThreadRow.{ThreadRow}
use Rattle.machine.specs.declared.decision.Decision.{Decision}
use Rattle.machine.specs.declared.holding.Holding.{Holding}
use Rattle.machine.specs.declared.state.State.{State}
use Rattle.machine.specs.declared.task.Task.{Task}
use Rattle.machine.specs.declared.task.Task.TheVariants.{Bury, Step}
use Rattle.machine.specs.Bodies.{run_body}
use Rattle.machine.specs.Dooms.{end}
use Rattle.machine.specs.Holdings.{holdings}
use Rattle.machine.specs.Reaping.{bury}
use Rattle.machine.specs.Steps.{decision_of_row}
use Rattle.machine.specs.Task.{dying_task, instruction, return_or}
use Rattle.machine.specs.Out.{is_returning}
use Rattle.next_actions.specs.declared.tasks.NextAction.{NextAction}
use Rattle.next_actions.specs.declared.tasks.NextAction.TheVariants.{Decided, Runs, Steps, Dies, Ends, Buries}

-- all that the thread of a row still has
abbrev pub holdings_at : State → ObjNo → Option ThreadRow → List Holding
holdings_at S t None = []
holdings_at S t (Some row) = holdings S t row

-- whether there is anything in a list of this
abbrev pub has_any : List Holding → Bool
has_any [] = false
has_any (what ∷ rest) = true

-- a thread that is doomed, where there is one
abbrev pub IsDoomed : Option ThreadRow → Type 0
IsDoomed None = Unit {0}
IsDoomed (Some row) = row.stage ≡ Doomed

-- what the thread of a row does, doomed and owing nothing: it gives up the first of what it has, and at last is cleaned
abbrev pub dying_at : State → ObjNo → Option ThreadRow → Option Task
dying_at S t row = Some (dying_task (holdings_at S t row))

-- what it comes to: what was decided, the body, the step of the instruction, or what ends, reaps or buries a thread
abbrev pub decided_by : Script → ObjNo → State → Option ThreadRow → Decision → NextAction → Decision
decided_by script t S row decision Decided = decision
decided_by script t S row decision (Runs body) = run_body script t S body
decided_by script t S row decision (Steps instr) = decision_of_row script S t row (Some (Step instr.now))
decided_by script t S row decision Dies = decision_of_row script S t row (dying_at S t row)
decided_by script t S row decision Ends = end t
decided_by script t S row decision (Buries dfc) = bury script S dfc

-- where it is a step or a burial, the task is that
abbrev pub IsStepOf : Option Task → NextAction → Type 0
IsStepOf task (Steps instr) = task ≡ Some (Step instr.now)
IsStepOf task (Buries dfc) = task ≡ Some (Bury dfc)
IsStepOf task _ = Unit {0}

-- whoever is reaped is doomed, and whoever ends is live and nothing protects it
abbrev pub SuitsRow : State → ObjNo → ThreadRow → NextAction → Type 0
SuitsRow S t row Dies = row.stage ≡ Doomed
SuitsRow S t row Ends = (row.stage ≡ Live) × (is_protected S.synchronization.nano t ≡ false)
SuitsRow S t row _ = Unit {0}

-- a thread that isn't between a find and its return
abbrev pub IsApart : Script → ThreadRow → Type 0
IsApart script row = return_or (is_returning row.part) (instruction script row) None ≡ None

-- whoever is reaped isn't between a find and its return
abbrev pub ReapsApart : Script → ThreadRow → NextAction → Type 0
ReapsApart script row Dies = IsApart script row
ReapsApart script row _ = Unit {0}

-- of the thread of a row, where there is one
abbrev pub Suits : Script → State → ObjNo → Option ThreadRow → NextAction → Type 0
Suits script S t None next = Unit {0}
Suits script S t (Some row) next = SuitsRow S t row next × ReapsApart script row next
