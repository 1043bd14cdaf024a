use Rattle.std.proofs.Common.{◌<◌, ap, arith, length}
use Rattle.std.proofs.lemmas.Bool.Decides.{nat_tests}
use Rattle.machine.specs.Run.{run}
use Rattle.runner.proofs.Parts.{fewer-left, run-part-few}
use Rattle.runner.proofs.summary.summary_of.Goals as goal

pub overflow_add-entries : goal.overflow_add-entries
overflow_add-entries c =
    let s = c.loop-part.schedule in
    let few = run-part-few c.args.schedule.now.script s.history s.left c.next_part.new.self.part s.size c.requires.valid c.loop-part.invariant.whole
    c.next_part.ensures.part in
    omega (arith, few, ap length c.part-part.ensures, c.loop-part.invariant.entries)

pub with_messages_of-messages-requires-clause-accepted : goal.with_messages_of-messages-requires-clause-accepted
with_messages_of-messages-requires-clause-accepted c =
    let s = c.loop-part.schedule in
    let few = run-part-few c.args.schedule.now.script s.history s.left c.next_part.new.self.part s.size c.requires.valid c.loop-part.invariant.whole
    c.next_part.ensures.part in
    omega (arith, few, ap length c.part-part.ensures, c.loop-part.invariant.entries, c.loop-part.invariant.few_accepted)

pub with_messages_of-messages-requires-clause-finished : goal.with_messages_of-messages-requires-clause-finished
with_messages_of-messages-requires-clause-finished c =
    let s = c.loop-part.schedule in
    let few = run-part-few c.args.schedule.now.script s.history s.left c.next_part.new.self.part s.size c.requires.valid c.loop-part.invariant.whole
    c.next_part.ensures.part in
    omega (arith, few, ap length c.part-part.ensures, c.loop-part.invariant.entries, c.loop-part.invariant.few_finished)

pub loop-part-smaller : goal.loop-part-smaller
loop-part-smaller c =
    let s = c.loop-part.schedule in
    let new = c.next_part.new.self in
    let some : 0 < s.size = omega (arith, c.loop-part.invariant.size, c.requires.some) in
    let read : 0 < length c.part-part.result.now = grind (arith, nat_tests) in
    let more : 0 < length new.part = omega (arith, read, ap length c.part-part.ensures) in
    let fewer = fewer-left (run c.args.schedule.now.script) s.history s.left new.part s.size c.loop-part.invariant.whole c.next_part.ensures.part some more in
    omega (arith, fewer, ap length c.next_part.ensures.left)
