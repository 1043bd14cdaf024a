use Rattle.std.proofs.Common.{refl}
use Rattle.kernel_tables.proofs.FirstCount.{request_counts}
use Rattle.kernel_tables.proofs.moves.make_request.Goals as goal

pub returns-clause-moved : goal.returns-clause-moved
returns-clause-moved g c = λ t. record {
  state = rw c.move_request.ensures refl;
  counts = request_counts c.args.tables.now.objects.counts c.args.change.now;
  mode = refl;
  notes = refl;
  reuse = refl;
  tied = c.requires.kept.tied;
}
