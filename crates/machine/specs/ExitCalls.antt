-- `kill`, `terminate`, `panic`, `exittype` and `exit`: threads that die by a call, and what is told of it.
use Rattle.std.specs.Prelude.{ℕ, ℤ, pos, if◌then◌else◌, [], Option, Some, None}
use Rattle.sym_base.specs.declared.error.Error.{Error}
use Rattle.sym_base.specs.declared.error.Error.TheVariants.{Died, InUse}
use Rattle.sym_base.specs.declared.kind.Exit.{Exit}
use Rattle.sym_base.specs.declared.kind.ExitKind.{ExitKind}
use Rattle.sym_base.specs.declared.kind.ExitKind.TheVariants as kind
use Rattle.sym_base.specs.declared.kind.Kind.TheVariants.{Thread}
use Rattle.sym_base.specs.declared.number.ObjNo.{ObjNo}
use Rattle.sym_base.specs.declared.word.Word.{Word}
use Rattle.sym_base.specs.declared.word.Word.TheVariants as word
use Rattle.entry_log.specs.declared.step.Step.TheVariants.{Of}
use Rattle.entry_log.specs.declared.step.Part.{Part}
use Rattle.entry_log.specs.declared.step.Part.TheVariants.{Do}
use Rattle.state_rows.specs.Nano.{is_protected}
use Rattle.state_rows.specs.declared.thread.ThreadRow.{ThreadRow}
use Rattle.machine.specs.declared.decision.Decision.{Decision}
use Rattle.machine.specs.declared.state.State.{State}
use Rattle.machine.specs.Rows.{thread_of}
use Rattle.machine.specs.Decide.{nothing, answer, refuse}
use Rattle.machine.specs.Dooms.{doom, doom_or_note, killed, noted_of}
use Rattle.machine.specs.Look.{look_kind}
use Rattle.machine.specs.ThreadCalls.{refusal_of}

-- an exit is noted of it already: it died
abbrev pub exit_unless_noted : State → ObjNo → ObjNo → Word → Exit → Option Exit → Decision
exit_unless_noted S t u word exit None = answer t (Of word Do) (doom_or_note S u exit) (pos 0)
exit_unless_noted S t u word exit (Some noted) = refuse t (Of word Do) Died

-- the second step: a refusal comes first
abbrev pub exit_unless_refused : State → ObjNo → ObjNo → Word → Exit → Option Error → Decision
exit_unless_refused S t u word exit None = exit_unless_noted S t u word exit (noted_of S u)
exit_unless_refused S t u word exit (Some refusal) = refuse t (Of word Do) refusal

abbrev pub exit_on : State → ObjNo → Word → Exit → Option ObjNo → Decision
exit_on S t word exit None = nothing
exit_on S t word exit (Some u) = exit_unless_refused S t u word exit (refusal_of (thread_of S u))

-- first the look at a handle of a thread, and then its exit: a kill, an end by another, or a panic
abbrev pub exit_step : State → ObjNo → ThreadRow → Word → ℕ → Exit → Option Part → Decision
exit_step S t row word x exit None = look_kind S t row Thread word x
exit_step S t row word x exit (Some part) = exit_on S t word exit row.uses

-- the number of a kind of exit, and that of a thread that is live: its exit is pending
abbrev pub exit_number : ExitKind → ℕ
exit_number kind.Kill = 0
exit_number kind.Terminate = 1
exit_number kind.Panic = 2

abbrev pub type_of_exit : Option Exit → ℕ
type_of_exit None = 3
type_of_exit (Some exit) = exit_number exit.kind

abbrev pub exit_type : Option ThreadRow → ℕ
exit_type None = 3
exit_type (Some row) = type_of_exit row.exit

abbrev pub exittype_on : State → ObjNo → Option ObjNo → Decision
exittype_on S t None = nothing
exittype_on S t (Some u) = answer t (Of word.Exittype Do) [] (pos (exit_type (thread_of S u)))

abbrev pub exittype_step : State → ObjNo → ThreadRow → ℕ → Option Part → Decision
exittype_step S t row x None = look_kind S t row Thread word.Exittype x
exittype_step S t row x (Some part) = exittype_on S t row.uses

-- what protects the thread is in use; else it is doomed, and nothing is answered
abbrev pub exit_do : State → ObjNo → ℤ → Decision
exit_do S t reason =
    if is_protected S.synchronization.nano t then refuse t (Of word.Exit Do) InUse
    else record { step = Of word.Exit Do; moves = doom t (killed reason); answer = None }
