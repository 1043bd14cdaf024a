-- Moves in the rows of threads that synchronize: what each changes, what it tells, and whose rows they are.
use Rattle.std.specs.Prelude.{List, [], ◌∷◌, None}
use Rattle.sym_base.specs.declared.number.ObjNo.{ObjNo}
use Rattle.entry_log.specs.declared.effect.Effect.{Effect}
use Rattle.entry_log.specs.declared.effect.Effect.TheVariants as effect
use Rattle.entry_log.specs.declared.effect.LockNo.TheVariants.{Fast}
use Rattle.state_rows.specs.declared.nano.NanoRows.{NanoRows}
use Rattle.state_rows.specs.NanoChanges.{after_take, after_give, after_want, after_enter, after_leave, after_leave_all, after_suspend, after_resume, after_resume_all, after_signal, after_wait}
use Rattle.machine.specs.declared.nano_move.NanoMove.{NanoMove}
use Rattle.machine.specs.declared.nano_move.NanoMove.TheVariants.{Take, Give, Want, Enter, Leave, LeaveAll, Suspend, Resume, Release, Raise, Lower}

-- the rows after a move; a thread that takes a fast mutex wants none any more
abbrev pub nano_moved : NanoMove → NanoRows → NanoRows
nano_moved (Take t f) r = after_want (after_take r t f) t None
nano_moved (Give t f) r = after_give r t f
nano_moved (Want t f) r = after_want r t f
nano_moved (Enter t) r = after_enter r t
nano_moved (Leave t) r = after_leave r t
nano_moved (LeaveAll t) r = after_leave_all r t
nano_moved (Suspend t) r = after_suspend r t
nano_moved (Resume t) r = after_resume r t
nano_moved (Release t) r = after_want (after_resume_all r t) t None
nano_moved (Raise t) r = after_signal r t
nano_moved (Lower t) r = after_wait r t

-- what it tells: who took and gave which fast mutex
abbrev pub nano_told : NanoMove → List Effect
nano_told (Take t f) = effect.Take t (Fast f) ∷ []
nano_told (Give t f) = effect.Give t (Fast f) ∷ []
nano_told _ = []

-- the thread whose rows change
abbrev pub nano_thread : NanoMove → ObjNo
nano_thread (Take t f) = t
nano_thread (Give t f) = t
nano_thread (Want t f) = t
nano_thread (Enter t) = t
nano_thread (Leave t) = t
nano_thread (LeaveAll t) = t
nano_thread (Suspend t) = t
nano_thread (Resume t) = t
nano_thread (Release t) = t
nano_thread (Raise t) = t
nano_thread (Lower t) = t
