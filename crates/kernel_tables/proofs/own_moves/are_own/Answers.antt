use Rattle.kernel_tables.proofs.Performing.{next_item, none_left}
use Rattle.kernel_tables.proofs.own_moves.are_own.Goals as goal

pub loop-change-preserved : goal.loop-change-preserved
loop-change-preserved c =
    let next = next_item c.args.moves.now c.loop-change.change-index c.change-item.result c.loop-change-test.true c.change-item.is in
    λ rest. (rw next at c.loop-change.invariant) (c.is_own.ensures c.if-not-is_own.false, rest)

pub returns : goal.returns
returns c = λ _. (rw (none_left c.args.moves.now c.loop-change.change-index c.loop-change-test.false) at c.loop-change.invariant) tt
