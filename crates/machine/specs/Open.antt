-- `open`: an object is found by its kind and name, opened, and gets a handle.
use Rattle.std.specs.Prelude.{ℕ, List, Option, Some, None}
use Rattle.sym_base.specs.declared.kind.Kind.{Kind}
use Rattle.sym_base.specs.declared.number.ObjNo.{ObjNo}
use Rattle.sym_base.specs.declared.word.Word.TheVariants.{Open}
use Rattle.entry_log.specs.declared.step.Step.TheVariants.{Of}
use Rattle.entry_log.specs.declared.step.Part.{Part}
use Rattle.entry_log.specs.declared.step.Part.TheVariants.{Do, Seek}
use Rattle.machine.specs.declared.decision.Decision.{Decision}
use Rattle.state_rows.specs.declared.thread.ThreadRow.{ThreadRow}
use Rattle.machine.specs.declared.state.State.{State}
use Rattle.machine.specs.Handles.{process_handle}
use Rattle.machine.specs.Decide.{nothing, give_handle, unless_holding}
use Rattle.machine.specs.Find.{seek, return_to}

-- the third step: a handle of what the thread uses
abbrev pub open_do : State → ObjNo → ThreadRow → ℕ → Option ObjNo → Decision
open_do S t row x None = nothing
open_do S t row x (Some o) = give_handle t (Of Open Do) o x (process_handle S row.process)

-- first the find, and after the return a handle
abbrev pub open_step : State → ObjNo → ThreadRow → Kind → List ℕ → ℕ → Option Part → Decision
open_step S t row kind name x None = unless_holding S t (Of Open Seek) (seek S t Open kind name)
open_step S t row kind name x (Some part) = open_do S t row x row.uses

-- the return
abbrev pub open_return : State → ObjNo → ThreadRow → Decision
open_return S t row = return_to S t row Open Do
