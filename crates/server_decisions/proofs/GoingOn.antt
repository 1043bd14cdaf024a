-- Earlier pieces that copied no more bytes than the copy has, whether it is refused or not.
use Rattle.std.proofs.Common.{ℕ, ◌≤◌, Option, Some, None}
use Rattle.copy_rules.specs.Sizes.{GoesOn}
use Rattle.copy_rules.specs.declared.job.Piece.{Piece}

pub goes_on : (refusal : Option Piece) (size done : ℕ) → done ≤ size → GoesOn refusal size done
goes_on (Some refusal) size done few = tt
goes_on None size done few = few
