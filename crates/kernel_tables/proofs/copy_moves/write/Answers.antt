use Rattle.std.proofs.Common.{refl}
use Rattle.kernel_tables.proofs.copy_moves.write.Goals as goal

pub returns : goal.returns
returns g c = λ t. record {
  state = rw (c.write_piece.ensures.copied, c.write_piece.ensures.length) refl;
  counts = λ o. refl;
  mode = refl;
  notes = refl;
  reuse = refl;
  tied = rw c.write_piece.ensures.copied c.requires.tied;
}
