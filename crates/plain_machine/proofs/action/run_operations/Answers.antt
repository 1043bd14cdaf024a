use Rattle.machine.specs.Bodies.{ops_moves}
use Rattle.plain_machine.proofs.Performing.{op_here, ops_go_on, tells_few, whole_few}
use Rattle.plain_machine.proofs.action.run_operations.Goals as goal

pub make_moves-requires-clause-few : goal.make_moves-requires-clause-few
make_moves-requires-clause-few c =
    tells_few _ _ _ _ c.as_slice.result.now _ _ _ _
    (op_here _ _ _ _ c.args.ops.now c.loop-op.op-index c.op-item.result c.op_moves.new.moves c.as_slice.result.now _ _
    c.loop-op-test.true c.op-item.is c.as_slice.ensures.moves c.op_moves.ensures.moves c.op_moves.ensures.few
    c.loop-op.invariant)
    (whole_few c.args.script.now c.args.thread
    (ops_moves c.args.script.now c.args.thread c.args.state.now c.args.ops.now) c.args.state.now c.args.course.now
    c.requires.few)

pub loop-op-preserved : goal.loop-op-preserved
loop-op-preserved c =
    ops_go_on _ _ _ _ _ c.as_slice.result.now _ _ _ _
    (op_here _ _ _ _ c.args.ops.now c.loop-op.op-index c.op-item.result c.op_moves.new.moves c.as_slice.result.now _ _
    c.loop-op-test.true c.op-item.is c.as_slice.ensures.moves c.op_moves.ensures.moves c.op_moves.ensures.few
    c.loop-op.invariant)
    c.in_ok-make_moves.ensures.state c.in_ok-make_moves.ensures.course
