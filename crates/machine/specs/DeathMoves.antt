-- Moves in the rows of threads that die: what each changes, what it tells, and whose row it is.
use Rattle.std.specs.Prelude.{List, [], ◌∷◌, Some}
use Rattle.sym_base.specs.declared.number.ObjNo.{ObjNo}
use Rattle.entry_log.specs.declared.effect.Effect.{Effect}
use Rattle.entry_log.specs.declared.effect.Effect.TheVariants as effect
use Rattle.entry_log.specs.declared.effect.Holder.TheVariants.{Kernel}
use Rattle.state_rows.specs.declared.duty.Owed.{Owed}
use Rattle.state_rows.specs.declared.duty.Owed.TheVariants.{Close}
use Rattle.state_rows.specs.declared.thread.Stage.TheVariants.{Doomed, Cleaned, Buried}
use Rattle.state_rows.specs.declared.thread.Waiting.TheVariants.{Nothing}
use Rattle.state_rows.specs.declared.thread.ThreadRow.{ThreadRow}
use Rattle.machine.specs.Rows.{owing}
use Rattle.machine.specs.declared.death_move.DeathMove.{DeathMove}
use Rattle.machine.specs.declared.death_move.DeathMove.TheVariants.{Note, Doom, Clean, Bury}

-- the row after a move
abbrev pub death_row : DeathMove → ThreadRow → ThreadRow
death_row (Note t exit) row = record row { noted = Some exit }
death_row (Doom t exit) row = record row { stage = Doomed; exit = Some exit; waiting = Nothing }
death_row (Clean t) row = record row { stage = Cleaned }
death_row (Bury t) row = record row { stage = Buried }

-- what threads owe after it: thread t, which buries another, owes the close of the kernel's own reference to that
abbrev pub death_owed : ObjNo → DeathMove → List (List Owed) → List (List Owed)
death_owed t (Bury u) owed = owing owed t (Close Kernel u ∷ [])
death_owed t _ owed = owed

-- what it tells: who is doomed, and who is buried
abbrev pub death_told : DeathMove → List Effect
death_told (Doom t exit) = effect.Doom t ∷ []
death_told (Bury t) = effect.Bury t ∷ []
death_told _ = []

-- the thread whose row changes
abbrev pub death_thread : DeathMove → ObjNo
death_thread (Note t exit) = t
death_thread (Doom t exit) = t
death_thread (Clean t) = t
death_thread (Bury t) = t
