-- Actions of which no thread is the actor: an interrupt's body runs, and the oldest item of the immediate queue runs or moves.
use Rattle.std.specs.Prelude.{ℕ, [], ◌∷◌, Option, Some, None, slice_get}
use Rattle.sym_base.specs.declared.number.ObjNo.{ObjNo}
use Rattle.script_types.specs.declared.declaration.DfcDecl.{DfcDecl}
use Rattle.script_types.specs.declared.script.Script.{Script}
use Rattle.entry_log.specs.declared.step.Step.{Step}
use Rattle.entry_log.specs.declared.step.Step.TheVariants.{MoveOf, Wait}
use Rattle.state_rows.specs.Deferred.{next_immediate}
use Rattle.state_rows.specs.declared.deferred.Item.{Item}
use Rattle.state_rows.specs.declared.deferred.Item.TheVariants.{Idfc, Move}
use Rattle.machine.specs.declared.decision.Decision.{Decision}
use Rattle.machine.specs.declared.deferred_move.DeferredMove.TheVariants.{TakeImmediate}
use Rattle.machine.specs.declared.moves.Move.TheVariants.{Deferred}
use Rattle.machine.specs.declared.plan.Body.TheVariants as body
use Rattle.machine.specs.declared.plan.Plan.{Plan}
use Rattle.machine.specs.declared.plan.Plan.TheVariants.{Decided, Runs}
use Rattle.machine.specs.declared.state.State.{State}
use Rattle.machine.specs.Decide.{nothing}
use Rattle.machine.specs.Bodies.{add_call, decision_by}
use Rattle.machine.specs.Transition.{Transition, carried_out}

-- the supervisor, which stands for the thread that acts where none does: such an action owes nothing
abbrev pub supervisor : ObjNo
supervisor = record { 0 = 1 }

-- a deferred function call leaves the immediate queue and joins its own
abbrev pub step_of_move : Option DfcDecl → Step
step_of_move None = Wait
step_of_move (Some dfc) = MoveOf dfc.name

abbrev pub move_call : Script → State → ℕ → Decision
move_call script S dfc = record { step = step_of_move (slice_get script.dfcs dfc); moves = Deferred TakeImmediate ∷ add_call S dfc ∷ []; answer = None }

-- what an item of the immediate queue does
abbrev pub item_plan : Script → State → Item → Plan
item_plan script S (Idfc item) = Runs (body.Immediate item)
item_plan script S (Move dfc) = Decided (move_call script S dfc)

abbrev pub immediate_plan : Script → State → Option Item → Plan
immediate_plan script S None = Decided nothing
immediate_plan script S (Some item) = item_plan script S item

-- what is done without a thread
abbrev pub done_by : Script → State → Plan → Transition
done_by script S plan = carried_out script supervisor S (decision_by script supervisor S plan)

-- the oldest item of the immediate queue
unfoldable pub immediate : Script → State → Transition
immediate script S = done_by script S (immediate_plan script S (next_immediate S.synchronization.deferred))

-- an interrupt
unfoldable pub interrupt : Script → State → ℕ → Transition
interrupt script S k = done_by script S (Runs (body.Interrupt k))
