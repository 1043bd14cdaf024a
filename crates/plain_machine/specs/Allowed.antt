-- What an action needs of the state, so that its numbers fit their types and its effects have a place. It only serves
-- proofs: every state that a history leaves has it.
use Rattle.std.specs.Prelude.{ℕ, ◌≤◌, length}
use Rattle.sym_base.specs.declared.number.ObjNo.{ObjNo}
use Rattle.script_types.specs.declared.script.Script.{Script}
use Rattle.state_rows.specs.Deferred.{next_immediate}
use Rattle.readings.specs.Readable.{AreSmallRows, AreSmallNumbers}
use Rattle.machine.specs.declared.decision.Decision.{Decision}
use Rattle.machine.specs.declared.plan.Body.TheVariants.{Interrupt}
use Rattle.machine.specs.declared.plan.Plan.TheVariants.{Runs}
use Rattle.machine.specs.declared.state.State.{State}
use Rattle.machine.specs.Bodies.{decision_by}
use Rattle.machine.specs.Interrupts.{immediate_plan, supervisor}
use Rattle.machine.specs.Moves.{tell}
use Rattle.machine.specs.Room.{HasRoom}
use Rattle.machine.specs.Steps.{decision_of}

-- what is decided tells at most four effects
abbrev pub TellsFew : ObjNo → State → Decision → Type 0
TellsFew t S d = length (tell t d.moves S) ≤ 4

-- the rows of threads that synchronize are small, and so are the numbers of outstanding messages
pub record IsSmall (S : State) : Type 0 where
  pub nano : AreSmallRows S.synchronization.nano
  pub messages : AreSmallNumbers S.serving.messages.outstanding

-- there is room for nine moves, and no action tells more than four effects
pub record AllowsAction (script : Script) (S : State) : Type 0 where
  pub room : HasRoom 9 S
  pub small : IsSmall S
  pub threads : (t : ObjNo) → TellsFew t S (decision_of script S t)
  pub immediate : TellsFew supervisor S (decision_by script supervisor S (immediate_plan script S (next_immediate S.synchronization.deferred)))
  pub interrupts : (k : ℕ) → TellsFew supervisor S (decision_by script supervisor S (Runs (Interrupt k)))
