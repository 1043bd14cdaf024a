use Rattle.std.proofs.Common.{◌+◌, drop, length, arith, refl}
use Rattle.plain_machine.proofs.Performing.{move_here, move_tells, move_goes_on, whole_few}
use Rattle.plain_machine.proofs.Rooms.{room_less}
use Rattle.plain_machine.proofs.action.make_moves.Goals as goal

pub tell_whole-requires-clause-few : goal.tell_whole-requires-clause-few
tell_whole-requires-clause-few c =
    move_tells _ _ _ _ c.change-item.result (drop (c.loop-change.change-index + 1) c.args.moves.now)
    (length (drop (c.loop-change.change-index + 1) c.args.moves.now)) _ _ _
    (move_here _ _ _ _ c.args.moves.now c.loop-change.change-index c.change-item.result _ _ c.loop-change-test.true c.change-item.is c.loop-change.invariant)
    (whole_few c.args.script.now c.args.thread c.args.moves.now c.args.state.now c.args.course.now c.requires.few)
    refl

pub make_move-requires-clause-room : goal.make_move-requires-clause-room
make_move-requires-clause-room c =
    let here = move_here _ _ _ _ c.args.moves.now c.loop-change.change-index c.change-item.result _ _
    c.loop-change-test.true c.change-item.is c.loop-change.invariant in
    room_less 1 _ c.loop-change.state (omega arith) here.room

pub loop-change-preserved : goal.loop-change-preserved
loop-change-preserved c =
    move_goes_on _ _ _ _ c.change-item.result _ _ _ _ c.loop-change.course _ _ _ _ _
    (move_here _ _ _ _ c.args.moves.now c.loop-change.change-index c.change-item.result _ _ c.loop-change-test.true c.change-item.is c.loop-change.invariant)
    c.in_ok-make_move.ensures c.tell_whole.ensures refl c.in_ok-take_out.ensures c.in_ok-arrive_touched.ensures c.touched.ensures
