-- A move tells what it tells but for a death, and then the death.
use Rattle.std.proofs.Common.{◌≡◌, Bool, true, false, [], ◌∷◌, ◌++◌, refl, append-nil, sym}
use Rattle.std.specs.Prelude.{if◌then◌else◌, Some, None}
use Rattle.sym_base.specs.declared.number.ObjNo.{ObjNo}
use Rattle.entry_log.specs.declared.effect.Effect.TheVariants.{Minus}
use Rattle.entry_log.specs.declared.effect.Holder.{Holder}
use Rattle.state_rows.specs.declared.duty.Owed.TheVariants.{Close}
use Rattle.machine.specs.declared.moves.Move.{Move}
use Rattle.machine.specs.declared.moves.Move.TheVariants.{Lose, Pay}
use Rattle.machine.specs.declared.state.State.{State}
use Rattle.machine.specs.Kept.{dies}
use Rattle.machine.specs.Moves.{closed_effects, told}
use Rattle.readings.specs.Dying.{dead_by, dead_told, told_alive}

closed : (dying : Bool) (h : Holder) (o : ObjNo) → closed_effects dying h o ≡ (Minus h o ∷ []) ++ dead_told (if dying then Some o else None)
closed true h o = refl
closed false h o = refl

pub told_dead : (m : Move) (S : State) → told m S ≡ told_alive m S ++ dead_told (dead_by m S)
told_dead (Lose h o) S = closed (dies S o) h o
told_dead (Pay (Close h o)) S = closed (dies S o) h o
told_dead m S = sym (append-nil (told m S))
