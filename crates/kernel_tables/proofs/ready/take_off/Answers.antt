use Rattle.std.proofs.Common.{◌≡◌, false, is_some, sym, ◌∙◌, arith}
use Rattle.kernel_tables.proofs.ReadyChanges.{past_leaves, absent_leaves, thread_leaves}
use Rattle.kernel_tables.proofs.ready.take_off.Goals as goal

pub returns-then-thread-ge-BOOT_OBJECTS-clause-queues : goal.returns-then-thread-ge-BOOT_OBJECTS-clause-queues
returns-then-thread-ge-BOOT_OBJECTS-clause-queues c = λ rank. past_leaves rank c.args.ready.now c.args.thread (omega arith)

pub returns-then-is_some-clause-queues : goal.returns-then-is_some-clause-queues
returns-then-is_some-clause-queues c = λ rank. rw c.remove.ensures (thread_leaves rank c.args.ready.now c.args.thread)

pub returns-else-is_some-clause-queues : goal.returns-else-is_some-clause-queues
returns-else-is_some-clause-queues c =
    let none : is_some c.priority_of.result ≡ false = sym c.is_some.ensures ∙ c.if-is_some.false in
    λ rank. absent_leaves rank c.args.ready.now c.args.thread (c.priority_of.ensures.none.0 none)
