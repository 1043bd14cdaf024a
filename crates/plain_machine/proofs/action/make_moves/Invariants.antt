use Rattle.std.proofs.Common.{drop, length}
use Rattle.machine.specs.Moves.{perform}
use Rattle.plain_machine.specs.Courses.{course_after}
use Rattle.plain_machine.proofs.Performing.{IsUnderWay}
use Rattle.plain_machine.proofs.action.make_moves.Given as goal

abbrev pub invariant-loop-change : goal.invariant-loop-change
invariant-loop-change l =
    let later = drop l.change-index l.moves in
    IsUnderWay l.script l.thread (perform l.thread l.moves l.initial.state)
    (course_after l.script l.thread l.moves l.initial.state l.initial.course) later (length later) l.state l.course
