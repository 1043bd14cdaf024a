-- The phases of an instruction, and what comes after one of its steps.
use Rattle.std.specs.Prelude.{ℕ, ℤ, if◌then◌else◌, List, [], ◌∷◌, Option, Some, None}
use Rattle.sym_base.specs.declared.number.ObjNo.{ObjNo}
use Rattle.sym_base.specs.declared.kind.Exit.{Exit}
use Rattle.entry_log.specs.declared.step.Part.{Part}
use Rattle.entry_log.specs.declared.step.Part.TheVariants.{Seek, Return, Look, Make, Send, Do, Done, Piece}
use Rattle.machine.specs.declared.death_move.DeathMove.TheVariants.{Doom}
use Rattle.machine.specs.declared.moves.Move.{Move}
use Rattle.machine.specs.declared.moves.Move.TheVariants.{Death}
use Rattle.machine.specs.declared.state.State.{State}
use Rattle.state_rows.specs.declared.thread.ThreadRow.{ThreadRow}
use Rattle.machine.specs.Rows.{thread_of}
use Rattle.machine.specs.Task.{is_wait}
use Rattle.exec_user.specs.declared.next.Next.{Next}
use Rattle.exec_user.specs.declared.next.Next.TheVariants as next

-- the number of each step that may be next, None being the first of an instruction
abbrev pub phase_of : Option Part → ℕ
phase_of None = 0
phase_of (Some Seek) = 1
phase_of (Some Return) = 2
phase_of (Some Look) = 3
phase_of (Some Make) = 4
phase_of (Some Send) = 5
phase_of (Some Do) = 6
phase_of (Some Done) = 7
phase_of (Some Piece) = 8

-- the phase that a thread's instruction is in
abbrev pub phase_of_row : Option ThreadRow → ℕ
phase_of_row None = 0
phase_of_row (Some row) = phase_of row.part

abbrev pub phase_at : State → ObjNo → ℕ
phase_at S t = phase_of_row (thread_of S t)

-- what comes after a step without an answer: a wait, where the thread waits, else the step that is next
abbrev pub goes_on : ThreadRow → Next
goes_on row = if is_wait row.waiting then next.Waits else next.Phase (phase_of row.part)

-- an answer ends the instruction
abbrev pub answered : Option ℤ → Option ThreadRow → Next
answered (Some code) row = next.Done
answered None None = next.Done
answered None (Some row) = goes_on row

-- the thread that a move dooms, and its exit
abbrev pub doom_in : Move → Option (ObjNo × Exit)
doom_in (Death (Doom u exit)) = Some (u, exit)
doom_in _ = None

-- the first thread that moves doom, and its exit
abbrev pub doom_or : Option (ObjNo × Exit) → Option (ObjNo × Exit) → Option (ObjNo × Exit)
doom_or None other = other
doom_or (Some doomed) other = Some doomed

abbrev pub dooms_of : List Move → Option (ObjNo × Exit)
dooms_of [] = None
dooms_of (m ∷ ms) = doom_or (doom_in m) (dooms_of ms)

-- a step that dooms a thread tells that, and any other its answer or what comes next
abbrev pub dooms_or : Option (ObjNo × Exit) → Next → Next
dooms_or None other = other
dooms_or (Some doomed) other = next.Dooms doomed.0 doomed.1

abbrev pub next_of : List Move → Option ℤ → Option ThreadRow → Next
next_of ms answer row = dooms_or (dooms_of ms) (answered answer row)
