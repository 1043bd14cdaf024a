-- What the laws of whole histories need of a decision: whether it answers as it ends its instruction, whom it cleans, which servers begin to
-- close, and what it leaves alone.
use Rattle.std.proofs.Common.{◌≡◌, ℕ, ℤ, List, [], Option, Some, None, Bool, true, false, ◌<◌, ◌≤◌, ◌⊎◌, ◌∷◌}
use Rattle.std.specs.Prelude.{if◌then◌else◌}
use Rattle.sym_base.specs.declared.number.ObjNo.{ObjNo}
use Rattle.script_types.specs.declared.instruction.Instr.{Instr}
use Rattle.script_types.specs.declared.instruction.Instr.TheVariants as instr
use Rattle.script_types.specs.declared.script.Script.{Script}
use Rattle.entry_log.specs.declared.effect.Holder.{Holder}
use Rattle.entry_log.specs.declared.effect.Holder.TheVariants.{Temp, InProcess, InThread}
use Rattle.entry_log.specs.declared.step.Part.{Part}
use Rattle.entry_log.specs.declared.step.Step.{Step}
use Rattle.entry_log.specs.declared.step.Step.TheVariants as step
use Rattle.state_rows.specs.declared.thread.Stage.TheVariants.{Doomed}
use Rattle.state_rows.specs.declared.thread.ThreadRow.{ThreadRow}
use Rattle.machine.specs.declared.death_move.DeathMove.TheVariants.{Clean, Doom}
use Rattle.machine.specs.declared.decision.Decision.{Decision}
use Rattle.machine.specs.declared.holding.Holding.{Holding}
use Rattle.machine.specs.declared.holding.Holding.TheVariants as holding
use Rattle.machine.specs.declared.lock_move.LockMove.TheVariants.{Lock, Unlock, Free}
use Rattle.machine.specs.declared.message_move.MessageMove.TheVariants.{Take}
use Rattle.machine.specs.declared.moves.Move.{Move}
use Rattle.machine.specs.declared.moves.Move.TheVariants.{Advance, Death, Gain, Open, Lose, Make, Servers, Messages, Locks, Find, GoOn, Keep, Miss, PutDown}
use Rattle.machine.specs.declared.server_move.ServerMove.TheVariants.{CloseAll, SetOpen}
use Rattle.machine.specs.declared.state.State.{State}
use Rattle.machine.specs.Holdings.{holdings}
use Rattle.machine.specs.Reaping.{clean}
use Rattle.machine.specs.References.{count_of, same, total}
use Rattle.machine.specs.Rows.{object_of, owed_of, thread_of}
use Rattle.machine.specs.Task.{instruction}
use Rattle.machine.specs.WellFormed.{IsAlive}
use Rattle.machine.specs.Out.{is_returning, part_of}
use Rattle.machine.specs.SharedRun.{is_return}
use Rattle.machine.specs.EntryWords.{is_clean, is_send, makes_server}

-- what a kind of decision may do: serve, change who has a mutex, come to use an object, and go on with its instruction or give a handle up
pub record Kinds : Type 0 where
  pub serves : Bool
  pub locks : Bool
  pub uses : Bool
  pub goes : Bool

abbrev pub plain : Kinds
plain = record { serves = false; locks = false; uses = false; goes = false }

abbrev pub serving : Kinds
serving = record { serves = true; locks = false; uses = false; goes = false }

-- what only goes on, and a step that serves and may go on
abbrev pub going : Kinds
going = record { serves = false; locks = false; uses = false; goes = true }

abbrev pub calling : Kinds
calling = record { serves = true; locks = false; uses = false; goes = true }

abbrev pub freeing : Kinds
freeing = record { serves = false; locks = true; uses = false; goes = false }

abbrev pub looking : Kinds
looking = record { serves = false; locks = false; uses = true; goes = true }

abbrev pub locking : Kinds
locking = record { serves = false; locks = true; uses = true; goes = true }

-- the kind of an instruction's step, by the part that is next, and of what is given up
abbrev pub kind_of : Instr → Option Part → Kinds
kind_of (instr.Close x) p = calling
kind_of (instr.Server name x) p = calling
kind_of (instr.Connect name slots x) (Some p) = calling
kind_of (instr.Send x function y args) (Some p) = calling
kind_of (instr.Call x function args) (Some p) = calling
kind_of (instr.Complete y code) p = serving
kind_of (instr.Lock x) p = locking
kind_of (instr.Unlock x) p = locking
kind_of _ p = looking

abbrev pub kind_given : Holding → Kinds
kind_given (holding.Mutex o) = freeing
kind_given (holding.Use o) = going
kind_given (holding.Handle h o) = calling
kind_given (holding.Logon u s) = plain
kind_given _ = serving

-- 1 for the move that cleans a thread
abbrev pub cleaning_bit : Move → ℕ
cleaning_bit (Death (Clean u)) = 1
cleaning_bit _ = 0

-- 1 for one that ends an instruction, for one by which a thread's servers are closing, and for that thread's doom
abbrev pub advance_bit : Move → ℕ
advance_bit (Advance u) = 1
advance_bit _ = 0

abbrev pub closed_bit : ObjNo → Move → ℕ
closed_bit v (Servers (CloseAll u)) = same u v
closed_bit v _ = 0

abbrev pub doomed_bit : ObjNo → Move → ℕ
doomed_bit v (Death (Doom u exit)) = same u v
doomed_bit v _ = 0

-- 1 for a move that changes who has a mutex
abbrev pub mutex_bit : Move → ℕ
mutex_bit (Locks (Lock o t locked)) = 1
mutex_bit (Locks (Unlock o t unlocked)) = 1
mutex_bit (Locks (Free o t best)) = 1
mutex_bit _ = 0

-- 1 for a move by which a server comes, closes or ends, a session is joined, a message is accepted or finished, or a handle, a
-- link or an ownership goes
abbrev pub serving_bit : Move → ℕ
serving_bit (Lose (Temp t) o) = 0
serving_bit (Lose h o) = 1
serving_bit (Servers (CloseAll u)) = 0
serving_bit (Servers (SetOpen s to)) = 0
serving_bit (Servers m) = 1
serving_bit (Messages (Take o)) = 0
serving_bit (Messages m) = 1
serving_bit _ = 0

-- 1 for one by which this thread comes to use an object
abbrev pub gained_bit : ObjNo → Holder → ℕ
gained_bit u (Temp v) = same v u
gained_bit u _ = 0

abbrev pub use_bit : ObjNo → Move → ℕ
use_bit u (Make kind name h) = gained_bit u h
use_bit u (Gain h o) = gained_bit u h
use_bit u (Open v o part) = same v u
use_bit u _ = 0

-- 1 for one by which a thread finds an object or comes back to it, goes on, keeps a number, or comes to hold an object, and where its handle or
-- its use goes
abbrev pub going_bit : Move → ℕ
going_bit (Make kind name h) = 1
going_bit (Gain h o) = 1
going_bit (Find u o) = 1
going_bit (Open u o part) = 1
going_bit (Miss u o) = 1
going_bit (GoOn u part) = 1
going_bit (Keep u number) = 1
going_bit (Lose (InProcess p i) o) = 1
going_bit (Lose (InThread u i) o) = 1
going_bit (Lose (Temp u) o) = 1
going_bit (PutDown u) = 1
going_bit _ = 0

-- 1 for one by which an object is found
abbrev pub find_bit : ObjNo → Move → ℕ
find_bit o (Find u x) = same x o
find_bit o _ = 0

-- 1 for one that finds any object, for one by which a thread comes back from a find, and for a step that is a return
abbrev pub finding_bit : Move → ℕ
finding_bit (Find u x) = 1
finding_bit _ = 0

abbrev pub coming_bit : Move → ℕ
coming_bit (Open u o part) = 1
coming_bit (Miss u o) = 1
coming_bit _ = 0

abbrev pub return_bit : Step → ℕ
return_bit step = if is_return step then 1 else 0

-- whether a step is any but the one in which nobody acts
abbrev pub acts : Step → Bool
acts step.Wait = false
acts told = true

-- whether an instruction finds an object by its name
abbrev pub finds_by_name : Option Instr → Bool
finds_by_name (Some (instr.Open kind name x)) = true
finds_by_name (Some (instr.Connect name slots x)) = true
finds_by_name _ = false

-- how much of that comes behind the end of an instruction
abbrev pub going_late : List Move → ℕ
going_late [] = 0
going_late (Advance u ∷ ms) = total going_bit ms
going_late (m ∷ ms) = going_late ms

-- 1 for what an action does once at most: it gives a reference up, or makes an object
abbrev pub once_bit : Move → ℕ
once_bit (Make kind name h) = 1
once_bit (Lose h o) = 1
once_bit _ = 0

-- 1 where something is answered
abbrev pub answer_bit : Option ℤ → ℕ
answer_bit None = 0
answer_bit (Some code) = 1

-- a doomed thread that owes nothing and has nothing left is cleaned by this decision
pub record IsCleaning (script : Script) (S : State) (t : ObjNo) (d : Decision) : Type 0 where
  pub row : ThreadRow
  pub is : thread_of S t ≡ Some row
  pub doomed : row.stage ≡ Doomed
  pub paid : owed_of S t ≡ []
  pub nothing : holdings S t row ≡ []
  pub moves : d.moves ≡ (clean script S t row).moves

-- a thread at an instruction that finds an object by its name finds this one, to which something refers if it is alive, and does nothing else
pub record IsFinding (script : Script) (S : State) (t : ObjNo) (d : Decision) (o : ObjNo) : Type 0 where
  pub row : ThreadRow
  pub is : thread_of S t ≡ Some row
  pub at : finds_by_name (instruction script row) ≡ true
  pub counted : IsAlive (object_of S o) → 0 < count_of S o
  pub moves : d.moves ≡ Find t o ∷ []

-- a decision answers where it ends an instruction, and goes on with nothing behind that; servers begin to close exactly of threads that it dooms; no
-- server is made with a mutex; it serves, sends and goes on only where its kind does, and cleans only in that step; its thread alone comes to use
-- something, where its kind does and nothing is answered; and it finds an object only where it does nothing else. It gives one reference up or
-- makes one object at most; and it comes back from a find exactly in a return, which only a thread makes that found something, and which does neither
pub record IsRegular (k : Kinds) (script : Script) (S : State) (t : ObjNo) (d : Decision) : Type 0 where
  pub answers : total advance_bit d.moves ≡ answer_bit d.answer
  pub dooms : (v : ObjNo) → total (closed_bit v) d.moves ≡ total (doomed_bit v) d.moves
  pub calm : k.serves ≡ false → total serving_bit d.moves ≡ 0
  pub making : makes_server d.step ≡ true → total mutex_bit d.moves ≡ 0
  pub sends : k.serves ≡ false → is_send d.step ≡ false
  pub goes : k.goes ≡ false → total going_bit d.moves ≡ 0
  pub last : going_late d.moves ≡ 0
  pub cleans : is_clean d.step ≡ false → total cleaning_bit d.moves ≡ 0
  pub known : is_clean d.step ≡ true → IsCleaning script S t d
  pub uses : (u : ObjNo) → (u.0 ≡ t.0 → ⊥) ⊎ ((k.uses ≡ false) ⊎ (0 < answer_bit d.answer)) → total (use_bit u) d.moves ≡ 0
  pub loses : total once_bit d.moves ≤ 1
  pub finds : (o : ObjNo) → 0 < total (find_bit o) d.moves → IsFinding script S t d o
  pub comes : total coming_bit d.moves ≡ return_bit d.step
  pub returns : is_return d.step ≡ true → (is_returning (part_of (thread_of S t)) ≡ true) × (total once_bit d.moves ≡ 0)

-- the same of moves that end so many instructions, clean nobody, find nothing, and by which nobody comes back or comes to use something
pub record IsTame (k : Kinds) (ends : ℕ) (ms : List Move) : Type 0 where
  pub cleans : total cleaning_bit ms ≡ 0
  pub advances : total advance_bit ms ≡ ends
  pub dooms : (v : ObjNo) → total (closed_bit v) ms ≡ total (doomed_bit v) ms
  pub calm : k.serves ≡ false → total serving_bit ms ≡ 0
  pub mutexes : k.locks ≡ false → total mutex_bit ms ≡ 0
  pub goes : k.goes ≡ false → total going_bit ms ≡ 0
  pub uses : (u : ObjNo) → total (use_bit u) ms ≡ 0
  pub loses : total once_bit ms ≤ 1
  pub finds : (o : ObjNo) → total (find_bit o) ms ≡ 0
  pub comes : total coming_bit ms ≡ 0
