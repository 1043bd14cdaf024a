-- Decisions: how a step answers, refuses, or goes on to the next step of its instruction.
use Rattle.std.specs.Prelude.{ℕ, ℤ, pos, is_some, if◌then◌else◌, List, [], ◌∷◌, ◌++◌, Option, Some, None}
use Rattle.sym_base.specs.declared.error.Error.{Error}
use Rattle.sym_base.specs.declared.error.Error.TheVariants.{InUse, Overflow}
use Rattle.sym_base.specs.declared.number.ObjNo.{ObjNo}
use Rattle.sym_base.specs.ErrorCode.{error_code}
use Rattle.entry_log.specs.declared.step.Part.{Part}
use Rattle.entry_log.specs.declared.step.Part.TheVariants.{Done}
use Rattle.entry_log.specs.declared.step.Step.{Step}
use Rattle.entry_log.specs.declared.step.Step.TheVariants.{Wait}
use Rattle.state_rows.specs.Nano.{held_by}
use Rattle.machine.specs.declared.decision.Decision.{Decision}
use Rattle.machine.specs.declared.handles.NewHandle.{NewHandle}
use Rattle.machine.specs.declared.moves.Move.{Move}
use Rattle.machine.specs.declared.moves.Move.TheVariants as move
use Rattle.machine.specs.declared.moves.Move.TheVariants.{Gain, GoOn, Write, Advance, Locks}
use Rattle.machine.specs.declared.lock_move.LockMove.{LockMove}
use Rattle.state_rows.specs.declared.thread.Waiting.{Waiting}
use Rattle.state_rows.specs.declared.thread.Waiting.TheVariants as waiting
use Rattle.machine.specs.declared.state.State.{State}

-- nobody acts
abbrev pub nothing : Decision
nothing = record { step = Wait; moves = []; answer = None }

-- the instruction is over: after these moves it answers a number
abbrev pub answer : ObjNo → Step → List Move → ℤ → Decision
answer t step moves code = record { step = step; moves = moves ++ Advance t ∷ []; answer = Some code }

-- the instruction is over, and answers an error
abbrev pub refuse : ObjNo → Step → Error → Decision
refuse t step error = answer t step [] (error_code error)

-- this move alone, by which the instruction goes on
abbrev pub one_move : Step → Move → Decision
one_move step move = record { step = step; moves = move ∷ []; answer = None }

-- the instruction goes on to another step, with this move
abbrev pub go_on : ObjNo → Step → Move → Part → Decision
go_on t step move part = record { step = step; moves = GoOn t part ∷ move ∷ []; answer = None }

-- the thread waits for this, and the instruction goes on to its last step once the wait is over
abbrev pub wait_for : ObjNo → Step → Waiting → Decision
wait_for t step what = go_on t step (move.Wait t what) Done

-- what may block is refused to a thread that holds a fast mutex: it is in use
abbrev pub unless_holding : State → ObjNo → Step → Decision → Decision
unless_holding S t step d = if is_some (held_by S.synchronization.nano t) then refuse t step InUse else d

-- the thread waits for an object, as this move says
abbrev pub wait_at : ObjNo → Step → ObjNo → LockMove → Decision
wait_at t step o lock = record { step = step; moves = GoOn t Done ∷ move.Wait t (waiting.Lock o) ∷ Locks lock ∷ []; answer = None }

-- the instruction is over: after these moves a new handle's number goes to a register and is answered
abbrev pub answer_handle : ObjNo → Step → List Move → ℕ → ℕ → Decision
answer_handle t step moves x handle = answer t step (moves ++ Write t x handle ∷ []) (pos handle)

-- the next handle of a table is the object's; handles full: an overflow
abbrev pub give_handle : ObjNo → Step → ObjNo → ℕ → Option NewHandle → Decision
give_handle t step o x None = refuse t step Overflow
give_handle t step o x (Some handle) = answer_handle t step (Gain handle.holder o ∷ []) x handle.number
