use Rattle.std.proofs.Common.{◌*◌, drop, length}
use Rattle.machine.specs.Bodies.{ops_moves}
use Rattle.machine.specs.Moves.{perform}
use Rattle.plain_machine.specs.Courses.{course_after}
use Rattle.plain_machine.proofs.Performing.{IsUnderWay}
use Rattle.plain_machine.proofs.action.run_operations.Given as goal

abbrev pub invariant-loop-op : goal.invariant-loop-op
invariant-loop-op l =
    let moves = ops_moves l.script l.thread l.initial.state l.ops in
    let later = drop l.op-index l.ops in
    IsUnderWay l.script l.thread (perform l.thread moves l.initial.state)
    (course_after l.script l.thread moves l.initial.state l.initial.course) (ops_moves l.script l.thread l.state later)
    (2 * length later) l.state l.course
