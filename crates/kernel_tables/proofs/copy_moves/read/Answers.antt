use Rattle.std.proofs.Common.{refl}
use Rattle.kernel_tables.proofs.copy_moves.read.Goals as goal

pub returns : goal.returns
returns g c = λ t. record {
  state = rw (c.read_piece.ensures.copied, c.read_piece.ensures.messages) refl;
  counts = λ o. refl;
  mode = refl;
  notes = refl;
  reuse = refl;
  tied = rw c.read_piece.ensures.copied c.requires.tied;
}
