-- `flock` and `funlock`: fast mutexes, which don't nest. A thread that wants one that is held stays ready, and the
-- holder runs in its place.
use Rattle.std.specs.Prelude.{ℕ, pos, ◌==◌, if◌then◌else◌, [], ◌∷◌, Option, Some, None}
use Rattle.sym_base.specs.declared.error.Error.TheVariants.{General}
use Rattle.sym_base.specs.declared.number.ObjNo.{ObjNo}
use Rattle.sym_base.specs.declared.word.Word.TheVariants.{Flock, Funlock}
use Rattle.entry_log.specs.declared.step.Step.TheVariants.{Of}
use Rattle.entry_log.specs.declared.step.Part.{Part}
use Rattle.entry_log.specs.declared.step.Part.TheVariants.{Do, Done}
use Rattle.state_rows.specs.Nano.{critical_count, is_free, is_holder, want_of}
use Rattle.machine.specs.declared.decision.Decision.{Decision}
use Rattle.machine.specs.declared.moves.Move.TheVariants.{Nano}
use Rattle.machine.specs.declared.nano_move.NanoMove.TheVariants.{Take, Give, Want}
use Rattle.machine.specs.declared.state.State.{State}
use Rattle.machine.specs.Dooms.{doom_where, noted_of}
use Rattle.machine.specs.Decide.{nothing, answer, refuse, go_on, unless_holding}

-- free: the thread takes it; else it wants it from now on
abbrev pub flock_do : State → ObjNo → ℕ → Decision
flock_do S t f =
    if is_free S.synchronization.nano f then answer t (Of Flock Do) (Nano (Take t f) ∷ []) (pos 0)
    else go_on t (Of Flock Do) (Nano (Want t (Some f))) Done

-- the thread comes to act once what it wants is free: it takes that
abbrev pub flock_done : ObjNo → Option ℕ → Decision
flock_done t None = nothing
flock_done t (Some f) = answer t (Of Flock Done) (Nano (Take t f) ∷ []) (pos 0)

abbrev pub flock_step : State → ObjNo → ℕ → Option Part → Decision
flock_step S t f None = unless_holding S t (Of Flock Do) (flock_do S t f)
flock_step S t f (Some part) = flock_done t (want_of S.synchronization.nano t)

-- not held by the thread: a general error; else it gives it up, and is doomed where an exit is noted and nothing protects
-- it any more
abbrev pub funlock_do : State → ObjNo → ℕ → Decision
funlock_do S t f =
    if is_holder S.synchronization.nano t f then answer t (Of Funlock Do)
    (Nano (Give t f) ∷ doom_where (critical_count S.synchronization.nano t == 0) t (noted_of S t)) (pos 0)
    else refuse t (Of Funlock Do) General
