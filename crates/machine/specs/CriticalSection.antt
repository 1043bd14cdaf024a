-- `enter` and `leave`: critical sections, in which a thread isn't stopped; and what a thread at its list's end does
-- that is protected.
use Rattle.std.specs.Prelude.{ℕ, pos, ◌==◌, ◌&&◌, Bool, is_none, if◌then◌else◌, List, [], ◌∷◌, ◌++◌, Option, Some, None}
use Rattle.sym_base.specs.declared.error.Error.TheVariants.{General}
use Rattle.sym_base.specs.declared.number.ObjNo.{ObjNo}
use Rattle.sym_base.specs.declared.word.Word.TheVariants as word
use Rattle.entry_log.specs.declared.step.Step.TheVariants as step
use Rattle.entry_log.specs.declared.step.Part.TheVariants.{Do}
use Rattle.state_rows.specs.Nano.{critical_count, held_by}
use Rattle.machine.specs.declared.decision.Decision.{Decision}
use Rattle.machine.specs.declared.moves.Move.{Move}
use Rattle.machine.specs.declared.moves.Move.TheVariants.{Nano}
use Rattle.machine.specs.declared.nano_move.NanoMove.TheVariants.{Give, Enter, Leave, LeaveAll}
use Rattle.machine.specs.declared.state.State.{State}
use Rattle.machine.specs.Dooms.{doom_noted, doom_where, noted_of}
use Rattle.machine.specs.Decide.{answer, refuse}

-- one critical section more
abbrev pub enter_do : ObjNo → Decision
enter_do t = answer t (step.Of word.Enter Do) (Nano (Enter t) ∷ []) (pos 0)

-- in none: a general error; else one less, and the thread is doomed where an exit is noted and nothing protects it any more
abbrev pub is_unprotected : State → ObjNo → Bool
is_unprotected S t = critical_count S.synchronization.nano t == 1 && is_none (held_by S.synchronization.nano t)

abbrev pub leave_do : State → ObjNo → Decision
leave_do S t =
    if critical_count S.synchronization.nano t == 0 then refuse t (step.Of word.Leave Do) General
    else answer t (step.Of word.Leave Do) (Nano (Leave t) ∷ doom_where (is_unprotected S t) t (noted_of S t)) (pos 0)

-- the fast mutex goes that the thread holds, if there is one
abbrev pub give_held : ObjNo → Option ℕ → List Move
give_held t None = []
give_held t (Some f) = Nano (Give t f) ∷ []

-- at its list's end a thread gives up what protects it, and is doomed where an exit is noted
abbrev pub flush : State → ObjNo → Decision
flush S t = record {
  step = step.Flush;
  moves = give_held t (held_by S.synchronization.nano t) ++ Nano (LeaveAll t) ∷ doom_noted t (noted_of S t);
  answer = None;
}
