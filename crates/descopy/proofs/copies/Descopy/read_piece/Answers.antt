use Rattle.descopy.proofs.Leaving.{read_leaves}
use Rattle.descopy.proofs.copies.Descopy.read_piece.Goals as goal

pub returns-clause-copied : goal.returns-clause-copied
returns-clause-copied c =
    read_leaves c.args.self.now.procs.now c.copy.new.procs c.ends_of-ends.result _ c.args.job c.client_place-from.result
    c.caller_place-to.result c.read_size-size.result c.piece_size.result c.ends_of-ends.ensures c.in_default.ensures
    c.read_size-size.ensures c.client_place-from.ensures c.caller_place-to.ensures c.piece_size.ensures c.copy.ensures
