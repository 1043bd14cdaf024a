-- `fswait` and `fssignal`: fast semaphores. Only its own thread waits on one, and signals are kept by count.
use Rattle.std.specs.Prelude.{ℕ, pos, ◌==◌, if◌then◌else◌, List, [], ◌∷◌, Option, Some, None}
use Rattle.sym_base.specs.declared.error.Error.TheVariants.{Died}
use Rattle.sym_base.specs.declared.kind.Kind.TheVariants.{Thread}
use Rattle.sym_base.specs.declared.number.ObjNo.{ObjNo}
use Rattle.sym_base.specs.declared.word.Word.TheVariants.{Fswait, Fssignal}
use Rattle.entry_log.specs.declared.step.Step.TheVariants.{Of}
use Rattle.entry_log.specs.declared.step.Part.{Part}
use Rattle.entry_log.specs.declared.step.Part.TheVariants.{Do, Done}
use Rattle.state_rows.specs.Nano.{signal_count}
use Rattle.machine.specs.declared.decision.Decision.{Decision}
use Rattle.machine.specs.declared.moves.Move.{Move}
use Rattle.machine.specs.declared.moves.Move.TheVariants.{Wake, Nano}
use Rattle.machine.specs.declared.nano_move.NanoMove.TheVariants.{Raise, Lower}
use Rattle.state_rows.specs.declared.thread.Waiting.{Waiting}
use Rattle.state_rows.specs.declared.thread.Waiting.TheVariants.{Fast}
use Rattle.state_rows.specs.declared.thread.ThreadRow.{ThreadRow}
use Rattle.machine.specs.declared.state.State.{State}
use Rattle.machine.specs.Rows.{thread_of}
use Rattle.machine.specs.ThreadCalls.{is_live}
use Rattle.machine.specs.Find.{find_object}
use Rattle.machine.specs.Decide.{answer, refuse, wait_for, unless_holding}

-- a signal is there: the thread takes it; else it waits for one
abbrev pub fswait_do : State → ObjNo → Decision
fswait_do S t =
    if signal_count S.synchronization.nano t == 0 then wait_for t (Of Fswait Do) Fast
    else answer t (Of Fswait Do) (Nano (Lower t) ∷ []) (pos 0)

abbrev pub fswait_step : State → ObjNo → Option Part → Decision
fswait_step S t None = unless_holding S t (Of Fswait Do) (fswait_do S t)
fswait_step S t (Some part) = answer t (Of Fswait Done) [] (pos 0)

-- what a signal does to a thread: its wait for one ends, or its count rises
abbrev pub signal_move : ObjNo → Waiting → Move
signal_move u Fast = Wake u
signal_move u _ = Nano (Raise u)

-- the thread isn't live any more: it died
abbrev pub signal_thread : ObjNo → ObjNo → Option ThreadRow → Decision
signal_thread t u None = refuse t (Of Fssignal Do) Died
signal_thread t u (Some row) =
    if is_live row.stage then answer t (Of Fssignal Do) (signal_move u row.waiting ∷ []) (pos 0)
    else refuse t (Of Fssignal Do) Died

abbrev pub signal_found : State → ObjNo → Option ObjNo → Decision
signal_found S t None = refuse t (Of Fssignal Do) Died
signal_found S t (Some u) = signal_thread t u (thread_of S u)

-- the signal of the thread that has this name
abbrev pub fssignal_do : State → ObjNo → List ℕ → Decision
fssignal_do S t name = signal_found S t (find_object S Thread name)
