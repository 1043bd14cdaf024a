-- `logon`: a status that tells a thread's death.
use Rattle.std.specs.Prelude.{ℕ, ℤ, pos, if◌then◌else◌, [], ◌∷◌, Option, Some, None}
use Rattle.sym_base.specs.declared.error.Error.TheVariants.{InUse}
use Rattle.sym_base.specs.declared.kind.Exit.{Exit}
use Rattle.sym_base.specs.declared.kind.Kind.TheVariants.{Thread}
use Rattle.sym_base.specs.declared.number.ObjNo.{ObjNo}
use Rattle.sym_base.specs.declared.word.Word.TheVariants as word
use Rattle.entry_log.specs.declared.step.Step.TheVariants.{Of}
use Rattle.entry_log.specs.declared.step.Part.{Part}
use Rattle.entry_log.specs.declared.step.Part.TheVariants.{Do, Look}
use Rattle.state_rows.specs.Requests.{is_pending}
use Rattle.state_rows.specs.declared.thread.Stage.{Stage}
use Rattle.state_rows.specs.declared.thread.Stage.TheVariants.{Cleaned, Buried}
use Rattle.state_rows.specs.declared.thread.ThreadRow.{ThreadRow}
use Rattle.machine.specs.declared.decision.Decision.{Decision}
use Rattle.machine.specs.declared.logon_move.LogonMove.TheVariants.{Add}
use Rattle.machine.specs.declared.moves.Move.{Move}
use Rattle.machine.specs.declared.moves.Move.TheVariants.{Logons, Requests}
use Rattle.machine.specs.declared.request_move.RequestMove.TheVariants.{SetPending, Signal}
use Rattle.machine.specs.declared.state.State.{State}
use Rattle.machine.specs.Rows.{thread_of}
use Rattle.machine.specs.Decide.{nothing, answer, refuse}
use Rattle.machine.specs.Look.{look_kind}

-- the reason of an exit, 0 without one
abbrev pub reason_of : Option Exit → ℤ
reason_of None = pos 0
reason_of (Some exit) = exit.reason

-- a cleaned or buried thread tells its exit at once; another does so when it dies
abbrev pub logon_move : ObjNo → ObjNo → ℕ → Option Exit → Stage → Move
logon_move t u s exit Cleaned = Requests (Signal t s (reason_of exit))
logon_move t u s exit Buried = Requests (Signal t s (reason_of exit))
logon_move t u s exit _ = Logons (Add u t s)

abbrev pub logon_row : ObjNo → ObjNo → ℕ → Option ThreadRow → Decision
logon_row t u s None = nothing
logon_row t u s (Some row) = answer t (Of word.Logon Do) (Requests (SetPending t s) ∷ logon_move t u s row.exit row.stage ∷ []) (pos 0)

-- The second step. No status comes to be pending between the look and this.
abbrev pub logon_do : State → ObjNo → ℕ → Option ObjNo → Decision
logon_do S t s None = nothing
logon_do S t s (Some u) = if is_pending S.synchronization.requests t s then nothing else logon_row t u s (thread_of S u)

-- first the look, for which a status that is pending is in use, and then the logon
abbrev pub logon_step : State → ObjNo → ThreadRow → ℕ → ℕ → Option Part → Decision
logon_step S t row x s None = if is_pending S.synchronization.requests t s then refuse t (Of word.Logon Look) InUse else look_kind S t row Thread word.Logon x
logon_step S t row x s (Some part) = logon_do S t s row.uses
