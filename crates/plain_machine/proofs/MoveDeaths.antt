-- Whether an object dies of a move, told by the object that dies of it.
use Rattle.std.proofs.Common.{◌≡◌, Bool, true, false, refl}
use Rattle.std.specs.Prelude.{if◌then◌else◌, is_some, Some, None}
use Rattle.sym_base.specs.declared.number.ObjNo.{ObjNo}
use Rattle.entry_log.specs.declared.effect.Holder.{Holder}
use Rattle.state_rows.specs.declared.duty.Owed.TheVariants.{Close}
use Rattle.machine.specs.declared.moves.Move.TheVariants.{Lose, Pay}
use Rattle.machine.specs.declared.state.State.{State}
use Rattle.machine.specs.Kept.{dies}
use Rattle.readings.specs.Dying.{dead_by}

some_if : (dying : Bool) (o : ObjNo) → is_some (if dying then Some o else None) ≡ dying
some_if true o = refl
some_if false o = refl

pub dies_of_lose : (h : Holder) (o : ObjNo) (S : State) → is_some (dead_by (Lose h o) S) ≡ dies S o
dies_of_lose h o S = some_if (dies S o) o

pub dies_of_pay : (h : Holder) (o : ObjNo) (S : State) → is_some (dead_by (Pay (Close h o)) S) ≡ dies S o
dies_of_pay h o S = some_if (dies S o) o
