-- `queue`: a deferred function call joins its queue.
use Rattle.std.specs.Prelude.{ℕ, pos, if◌then◌else◌, List, [], ◌∷◌, Option, Some, None}
use Rattle.sym_base.specs.declared.number.ObjNo.{ObjNo}
use Rattle.sym_base.specs.declared.word.Word.TheVariants.{Queue}
use Rattle.script_types.specs.declared.script.Script.{Script}
use Rattle.entry_log.specs.declared.step.Step.TheVariants.{Of}
use Rattle.entry_log.specs.declared.step.Part.TheVariants.{Do}
use Rattle.state_rows.specs.Deferred.{is_queued}
use Rattle.state_rows.specs.declared.deferred.Item.TheVariants.{Move}
use Rattle.machine.specs.declared.decision.Decision.{Decision}
use Rattle.machine.specs.declared.state.State.{State}
use Rattle.machine.specs.Decide.{nothing, answer}
use Rattle.state_rows.specs.DeclaredCalls.{dfc_named}
use Rattle.machine.specs.Bodies.{add_call}

-- queued already: 0; else it joins its queue, and the answer is 1
abbrev pub queue_named : State → ObjNo → Option ℕ → Decision
queue_named S t None = nothing
queue_named S t (Some dfc) =
    if is_queued S.synchronization.deferred (Move dfc) then answer t (Of Queue Do) [] (pos 0)
    else answer t (Of Queue Do) (add_call S dfc ∷ []) (pos 1)

abbrev pub queue_do : Script → State → ObjNo → List ℕ → Decision
queue_do script S t name = queue_named S t (dfc_named script name)
