-- Effects that tell of no reference and no death, from what they tell of an object.
use Rattle.std.proofs.Common.{◌≡◌, ◌+◌, List, arith}
use Rattle.sym_base.specs.declared.number.ObjNo.{ObjNo}
use Rattle.entry_log.specs.declared.effect.Effect.{Effect}
use Rattle.entry_log.specs.declared.effect.Holder.{Holder}
use Rattle.machine.specs.HeldIn.{held_in}
use Rattle.machine.specs.Holding.{EachFitsHolders, held_after_all}
use Rattle.machine.specs.References.{pluses}
use Rattle.machine.specs.Told.{finds}
use Rattle.machine.specs.declared.state.State.{State}
use Rattle.move_laws.proofs.Lives.Kinds.{ends_of, quiet_of}
use Rattle.move_laws.proofs.MoveLaws.RowMoves.{IsSilent}

pub silent_of : (S : State) {effects : List Effect} → ((o : ObjNo) → ends_of effects o ≡ (0, 0, 0))
    → ((o : ObjNo) → pluses effects o + finds effects o ≡ 0) → EachFitsHolders (held_in S) effects
    → ((g : Holder) (x : ObjNo) → held_after_all (held_in S) effects g x ≡ held_in S g x) → IsSilent S effects
silent_of S ends none fits after = record {
  quiet = quiet_of ends;
  pluses = λ o. let n = none o in omega arith;
  found = λ o some. let n = none o in absurd (omega arith);
  fits = fits;
  after = after;
}
