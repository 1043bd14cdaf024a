-- `dup` and `duplocal`: a look at a handle, and a second handle of its object.
use Rattle.std.specs.Prelude.{ℕ, Bool, true, false, if◌then◌else◌, Option, Some, None}
use Rattle.sym_base.specs.declared.error.Error.TheVariants.{PermissionDenied}
use Rattle.sym_base.specs.declared.number.ObjNo.{ObjNo}
use Rattle.sym_base.specs.declared.kind.Kind.{Kind}
use Rattle.sym_base.specs.declared.kind.Kind.TheVariants.{Server, Session}
use Rattle.sym_base.specs.declared.word.Word.{Word}
use Rattle.sym_base.specs.declared.word.Word.TheVariants as word
use Rattle.entry_log.specs.declared.step.Step.TheVariants.{Of}
use Rattle.entry_log.specs.declared.step.Part.{Part}
use Rattle.entry_log.specs.declared.step.Part.TheVariants.{Do}
use Rattle.state_rows.specs.declared.object.ObjectRow.{ObjectRow}
use Rattle.machine.specs.declared.decision.Decision.{Decision}
use Rattle.state_rows.specs.declared.thread.ThreadRow.{ThreadRow}
use Rattle.machine.specs.declared.state.State.{State}
use Rattle.machine.specs.declared.handles.NewHandle.{NewHandle}
use Rattle.machine.specs.Rows.{object_of}
use Rattle.machine.specs.Handles.{process_handle, thread_handle}
use Rattle.machine.specs.Decide.{nothing, refuse, give_handle}
use Rattle.machine.specs.Look.{look}

-- servers and sessions stay with the thread that made them
abbrev pub kind_stays : Kind → Bool
kind_stays Server = true
kind_stays Session = true
kind_stays _ = false

abbrev pub stays_with_thread : Option ObjectRow → Bool
stays_with_thread None = false
stays_with_thread (Some row) = kind_stays row.kind

-- the second step: a server or session: permission is denied; else one handle more of what the thread uses
abbrev pub dup_do : State → ObjNo → Word → ℕ → Option NewHandle → Option ObjNo → Decision
dup_do S t word y handle None = nothing
dup_do S t word y handle (Some o) =
    if stays_with_thread (object_of S o) then refuse t (Of word Do) PermissionDenied
    else give_handle t (Of word Do) o y handle

-- first the look, and then the second handle: in the process's table
abbrev pub dup_step : State → ObjNo → ThreadRow → ℕ → ℕ → Option Part → Decision
dup_step S t row x y None = look S t row word.Dup x
dup_step S t row x y (Some part) = dup_do S t word.Dup y (process_handle S row.process) row.uses

-- or in the thread's own
abbrev pub duplocal_step : State → ObjNo → ThreadRow → ℕ → ℕ → Option Part → Decision
duplocal_step S t row x y None = look S t row word.Duplocal x
duplocal_step S t row x y (Some part) = dup_do S t word.Duplocal y (thread_handle S t) row.uses
