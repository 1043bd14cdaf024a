-- Bodies: what interrupts and deferred function calls do, one operation after the other, each decided in the state that
-- the earlier ones left.
use Rattle.std.specs.Prelude.{ℕ, ℤ, ◌==◌, ◌||◌, not, Bool, true, false, if◌then◌else◌, List, [], ◌∷◌, ◌++◌, Option, Some, None, option_and_then, position, slice_get}
use Rattle.sym_base.specs.declared.kind.Kind.TheVariants.{Thread}
use Rattle.sym_base.specs.declared.number.ObjNo.{ObjNo}
use Rattle.script_types.specs.declared.declaration.DfcDecl.{DfcDecl}
use Rattle.script_types.specs.declared.declaration.IdfcDecl.{IdfcDecl}
use Rattle.script_types.specs.declared.declaration.IrqBody.{IrqBody}
use Rattle.script_types.specs.declared.declaration.Op.{Op}
use Rattle.script_types.specs.declared.declaration.Op.TheVariants as op
use Rattle.script_types.specs.declared.script.Script.{Script}
use Rattle.entry_log.specs.declared.step.Step.{Step}
use Rattle.entry_log.specs.declared.step.Step.TheVariants.{Run, RunOf, Wait}
use Rattle.state_rows.specs.DeclaredCalls.{idfc_named, dfc_named}
use Rattle.state_rows.specs.Deferred.{queue_of}
use Rattle.state_rows.specs.Requests.{is_pending, request_at}
use Rattle.state_rows.specs.declared.requests.Request.{Request}
use Rattle.machine.specs.declared.decision.Decision.{Decision}
use Rattle.machine.specs.declared.deferred_move.DeferredMove.TheVariants.{AddImmediate, AddFromInterrupt, Add, TakeImmediate, Take}
use Rattle.machine.specs.declared.moves.Move.{Move}
use Rattle.machine.specs.declared.moves.Move.TheVariants as move
use Rattle.machine.specs.declared.plan.Body.{Body}
use Rattle.machine.specs.declared.plan.Body.TheVariants.{Interrupt, Immediate, Deferred}
use Rattle.machine.specs.declared.plan.Plan.{Plan}
use Rattle.machine.specs.declared.plan.Plan.TheVariants.{Decided, Runs}
use Rattle.machine.specs.declared.request_move.RequestMove.TheVariants.{Complete}
use Rattle.state_rows.specs.declared.thread.Waiting.{Waiting}
use Rattle.state_rows.specs.declared.thread.Waiting.TheVariants.{Any, Status}
use Rattle.state_rows.specs.declared.thread.ThreadRow.{ThreadRow}
use Rattle.machine.specs.declared.state.State.{State}
use Rattle.machine.specs.Rows.{thread_of}
use Rattle.machine.specs.Find.{find_object}
use Rattle.machine.specs.ThreadCalls.{is_live}
use Rattle.machine.specs.FastSemaphore.{signal_move}
use Rattle.machine.specs.Moves.{perform}

-- a deferred function call joins its own queue
abbrev pub add_call : State → ℕ → Move
add_call S dfc = move.Deferred (Add dfc (queue_of S.synchronization.deferred dfc))

-- an immediate call joins the immediate queue, a deferred one joins it to be moved, and a deferred one joins its own queue
abbrev pub queue_immediate : Option ℕ → List Move
queue_immediate None = []
queue_immediate (Some item) = move.Deferred (AddImmediate item) ∷ []

abbrev pub queue_to_move : Option ℕ → List Move
queue_to_move None = []
queue_to_move (Some dfc) = move.Deferred (AddFromInterrupt dfc) ∷ []

abbrev pub queue_call : State → Option ℕ → List Move
queue_call S None = []
queue_call S (Some dfc) = add_call S dfc ∷ []

-- a signal of a thread's fast semaphore; nothing for a thread that isn't live
abbrev pub signal_row : ObjNo → Option ThreadRow → List Move
signal_row u None = []
signal_row u (Some row) = if is_live row.stage then signal_move u row.waiting ∷ [] else []

abbrev pub signal_object : State → Option ObjNo → List Move
signal_object S None = []
signal_object S (Some u) = signal_row u (thread_of S u)

-- whether a thread's wait ends when one of its statuses is completed: a wait for any, for this one, or for one that was
-- completed before
abbrev pub ends_wait : State → ObjNo → ℕ → Waiting → Bool
ends_wait S t s Any = true
ends_wait S t s (Status w) = w == s || not (is_pending S.synchronization.requests t w)
ends_wait S t s _ = false

abbrev pub end_wait : State → ObjNo → ℕ → Option ThreadRow → List Move
end_wait S t s None = []
end_wait S t s (Some row) = if ends_wait S t s row.waiting then move.Wake t ∷ [] else []

-- a device completes its request, where it has one
abbrev pub complete : State → ℕ → ℤ → Option Request → List Move
complete S d code None = []
complete S d code (Some request) =
    move.Requests (Complete d request.thread request.status code) ∷ end_wait S request.thread request.status (thread_of S request.thread)

-- what an operation does
abbrev pub op_moves : Script → State → Op → List Move
op_moves script S (op.Idfc name) = queue_immediate (idfc_named script name)
op_moves script S (op.Dfc name) = queue_to_move (dfc_named script name)
op_moves script S (op.Fssignal name) = signal_object S (find_object S Thread name)
op_moves script S (op.Device d code) = complete S d code (request_at S.synchronization.requests d)
op_moves script S (op.Queue name) = queue_call S (dfc_named script name)

-- what operations do, one after the other
abbrev pub ops_moves : Script → ObjNo → State → List Op → List Move
ops_moves script t S [] = []
ops_moves script t S (first ∷ rest) =
    op_moves script S first ++ ops_moves script t (perform t (op_moves script S first) S) rest

-- what is declared of a body
abbrev pub irq_of : Script → ℕ → Option IrqBody
irq_of script k = option_and_then (slice_get script.irqs) (position (λ (i : IrqBody). i.number == k) script.irqs)

-- its operations
abbrev pub ops_of_irq : Option IrqBody → List Op
ops_of_irq None = []
ops_of_irq (Some irq) = irq.body

abbrev pub ops_of_idfc : Option IdfcDecl → List Op
ops_of_idfc None = []
ops_of_idfc (Some idfc) = idfc.body

abbrev pub ops_of_dfc : Option DfcDecl → List Op
ops_of_dfc None = []
ops_of_dfc (Some dfc) = dfc.body

abbrev pub ops_of : Script → Body → List Op
ops_of script (Interrupt k) = ops_of_irq (irq_of script k)
ops_of script (Immediate item) = ops_of_idfc (slice_get script.idfcs item)
ops_of script (Deferred dfc) = ops_of_dfc (slice_get script.dfcs dfc)

-- the step of its entry
abbrev pub run_idfc : Option IdfcDecl → Step
run_idfc None = Wait
run_idfc (Some idfc) = RunOf idfc.name

abbrev pub run_dfc : Option DfcDecl → Step
run_dfc None = Wait
run_dfc (Some dfc) = RunOf dfc.name

abbrev pub step_of_body : Script → Body → Step
step_of_body script (Interrupt k) = Run
step_of_body script (Immediate item) = run_idfc (slice_get script.idfcs item)
step_of_body script (Deferred dfc) = run_dfc (slice_get script.dfcs dfc)

-- a call leaves its queue before its body runs
abbrev pub leave_queue : State → Body → List Move
leave_queue S (Interrupt k) = []
leave_queue S (Immediate item) = move.Deferred TakeImmediate ∷ []
leave_queue S (Deferred dfc) = move.Deferred (Take (queue_of S.synchronization.deferred dfc)) ∷ []

-- what a body does in an action of thread t
abbrev pub run_body : Script → ObjNo → State → Body → Decision
run_body script t S body = record {
  step = step_of_body script body;
  moves = leave_queue S body ++ ops_moves script t (perform t (leave_queue S body) S) (ops_of script body);
  answer = None;
}

-- what a plan comes to
abbrev pub decision_by : Script → ObjNo → State → Plan → Decision
decision_by script t S (Decided decision) = decision
decision_by script t S (Runs body) = run_body script t S body
