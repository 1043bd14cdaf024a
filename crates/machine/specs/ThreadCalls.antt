-- `suspend`, `resume` and `priority`: calls on a thread, by a handle of it.
use Rattle.std.specs.Prelude.{ℕ, pos, ◌==◌, Bool, true, false, if◌then◌else◌, [], ◌∷◌, Option, Some, None}
use Rattle.sym_base.specs.declared.error.Error.{Error}
use Rattle.sym_base.specs.declared.error.Error.TheVariants.{General, Overflow, Died, PermissionDenied}
use Rattle.sym_base.specs.declared.kind.Kind.TheVariants.{Thread}
use Rattle.sym_base.specs.declared.number.ObjNo.{ObjNo}
use Rattle.sym_base.specs.declared.word.Word.{Word}
use Rattle.sym_base.specs.declared.word.Word.TheVariants as word
use Rattle.entry_log.specs.declared.step.Step.TheVariants.{Of}
use Rattle.entry_log.specs.declared.step.Part.{Part}
use Rattle.entry_log.specs.declared.step.Part.TheVariants.{Do}
use Rattle.state_rows.specs.Nano.{suspend_count}
use Rattle.machine.specs.declared.decision.Decision.{Decision}
use Rattle.machine.specs.declared.moves.Move.{Move}
use Rattle.machine.specs.declared.moves.Move.TheVariants.{SetPriority, Nano}
use Rattle.machine.specs.declared.nano_move.NanoMove.TheVariants.{Suspend, Resume}
use Rattle.state_rows.specs.declared.thread.Role.{Role}
use Rattle.state_rows.specs.declared.thread.Role.TheVariants.{Supervisor, Queue, Declared}
use Rattle.state_rows.specs.declared.thread.Stage.{Stage}
use Rattle.state_rows.specs.declared.thread.Stage.TheVariants.{Live}
use Rattle.state_rows.specs.declared.thread.ThreadRow.{ThreadRow}
use Rattle.machine.specs.declared.state.State.{State}
use Rattle.machine.specs.Rows.{thread_of}
use Rattle.machine.specs.Decide.{nothing, answer, refuse}
use Rattle.machine.specs.Look.{look_kind}

-- nobody may call on the supervisor and the thread of a queue
abbrev pub refusal_of_role : Role → Option Error
refusal_of_role Supervisor = Some PermissionDenied
refusal_of_role (Queue queue) = Some PermissionDenied
refusal_of_role (Declared k) = None

-- whether a thread is live
abbrev pub is_live : Stage → Bool
is_live Live = true
is_live _ = false

-- why a call on a thread is refused: permission is denied, or the thread died
abbrev pub unless_live : Stage → Option Error → Option Error
unless_live stage (Some error) = Some error
unless_live stage None = if is_live stage then None else Some Died

abbrev pub refusal_of : Option ThreadRow → Option Error
refusal_of None = Some Died
refusal_of (Some row) = unless_live row.stage (refusal_of_role row.role)

-- one suspension more, of which there are at most 127
abbrev pub suspend_move : State → ObjNo → Option Move
suspend_move S u = if suspend_count S.synchronization.nano u == 127 then None else Some (Nano (Suspend u))

-- one suspension less
abbrev pub resume_move : State → ObjNo → Option Move
resume_move S u = if suspend_count S.synchronization.nano u == 0 then None else Some (Nano (Resume u))

-- the call's move, or an error where there is none
abbrev pub move_or_refuse : ObjNo → Word → Error → Option Move → Decision
move_or_refuse t word error None = refuse t (Of word Do) error
move_or_refuse t word error (Some move) = answer t (Of word Do) (move ∷ []) (pos 0)

-- the second step of a call on the thread that is used: a refusal comes before the call's own error
abbrev pub unless_refused : ObjNo → Word → Option Error → Error → Option Move → Decision
unless_refused t word None error move = move_or_refuse t word error move
unless_refused t word (Some refusal) error move = refuse t (Of word Do) refusal

abbrev pub call_on : State → ObjNo → Word → Error → (ObjNo → Option Move) → Option ObjNo → Decision
call_on S t word error move None = nothing
call_on S t word error move (Some u) = unless_refused t word (refusal_of (thread_of S u)) error (move u)

-- first the look at a handle of a thread, and then the call
abbrev pub thread_call : State → ObjNo → ThreadRow → Word → ℕ → Error → (ObjNo → Option Move) → Option Part → Decision
thread_call S t row word x error move None = look_kind S t row Thread word x
thread_call S t row word x error move (Some part) = call_on S t word error move row.uses

abbrev pub suspend_step : State → ObjNo → ThreadRow → ℕ → Option Part → Decision
suspend_step S t row x part = thread_call S t row word.Suspend x Overflow (suspend_move S) part

abbrev pub resume_step : State → ObjNo → ThreadRow → ℕ → Option Part → Decision
resume_step S t row x part = thread_call S t row word.Resume x General (resume_move S) part

abbrev pub priority_step : State → ObjNo → ThreadRow → ℕ → ℕ → Option Part → Decision
priority_step S t row x priority part = thread_call S t row word.Priority x General (λ u. Some (SetPriority u priority)) part
