-- What an action leaves: the state, and its step, effects and answer.
use Rattle.std.specs.Prelude.{[], None}
use Rattle.sym_base.specs.declared.number.ObjNo.{ObjNo}
use Rattle.entry_log.specs.declared.step.Step.TheVariants.{Wait}
use Rattle.script_types.specs.declared.script.Script.{Script}
use Rattle.machine.specs.declared.decision.Decision.{Decision}
use Rattle.machine.specs.declared.decision.Outcome.{Outcome}
use Rattle.machine.specs.declared.state.State.{State}
use Rattle.machine.specs.Moves.{perform, tell}
use Rattle.machine.specs.Steps.{decision_of}

-- a state, and what is told of the action that left it
pub record Transition : Type 0 where
  pub state : State
  pub outcome : Outcome

-- the action that left this state, and of which this is told
abbrev pub left : State → Outcome → Transition
left S outcome = record { state = S; outcome = outcome }

-- the action of thread t that was decided on
abbrev pub carried_out : Script → ObjNo → State → Decision → Transition
carried_out script t S d = record {
  state = perform t d.moves S;
  outcome = record { step = d.step; effects = tell t d.moves S; answer = d.answer };
}

-- nobody acts
abbrev pub idle : State → Transition
idle S = record { state = S; outcome = record { step = Wait; effects = []; answer = None } }

-- an action of a thread
unfoldable pub act : Script → State → ObjNo → Transition
act script S t = carried_out script t S (decision_of script S t)
