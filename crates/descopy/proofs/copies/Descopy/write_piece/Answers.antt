use Rattle.std.proofs.Common.{◌≡◌}
use Rattle.copy_rules.specs.Ends.{ends_of}
use Rattle.descopy.specs.Pieces.{after_write}
use Rattle.descopy.proofs.Leaving.{write_leaves}
use Rattle.descopy.proofs.copies.Descopy.write_piece.Goals as goal
use Rattle.descopy.proofs.copies.Descopy.write_piece.Goals.{then-job-count, else-job-count}

pub returns-clause-copied : goal.returns-clause-copied
returns-clause-copied c =
    let leaves : c.copy.new.procs ≡ after_write c.args.self.now.procs.now
    (ends_of c.args.self.now.procs.now.threads c.args.self.now.messages.now c.args.job) c.args.job =
    write_leaves c.args.self.now.procs.now c.copy.new.procs c.ends_of-ends.result _ c.args.job
    c.caller_place-from.result c.client_place-to.result c.piece_size-count.result c.ends_of-ends.ensures
    c.in_default.ensures c.caller_place-from.ensures c.client_place-to.ensures c.piece_size-count.ensures
    c.copy.ensures in
    elim c.if-job-count.branch [
      | then-job-count w ↦ rw w.self-is leaves
      | else-job-count w ↦ rw w.self-is leaves
    ]
