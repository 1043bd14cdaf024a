use Rattle.std.proofs.Common.{◌≡◌, true, false, ap, sym, ◌∙◌, is_some, arith, Bor}
use Rattle.std.specs.Prelude.{Option, Some, option_copied}
use Rattle.state_rows.specs.declared.thread.ThreadRow.{ThreadRow}
use Rattle.machine.specs.Choice.{priority_of, priority_of_row}
use Rattle.machine.specs.Rows.{thread_of}
use Rattle.kernel_tables.specs.StateOf.{state_of}
use Rattle.kernel_tables.proofs.ReadyChanges.{comes, stays_listed, stays_past, stays_unready}
use Rattle.kernel_tables.proofs.ready.arrive.Goals as goal

pub returns-then-thread-ge-BOOT_OBJECTS-clause-queues : goal.returns-then-thread-ge-BOOT_OBJECTS-clause-queues
returns-then-thread-ge-BOOT_OBJECTS-clause-queues g c =
    let S = state_of c.args.tables.now in
    rw c.in-Some.is (stays_past c.args.script.now S (priority_of S) c.args.ready.now c.in-Some.thread c.requires.known (omega arith))

pub returns-then-is_some-clause-queues : goal.returns-then-is_some-clause-queues
returns-then-is_some-clause-queues g c =
    let S = state_of c.args.tables.now in
    rw c.in-Some.is (stays_listed c.args.script.now S (priority_of S) c.args.ready.now c.in-Some.thread (λ absent.
    let none : is_some c.priority_of.result ≡ false = c.priority_of.ensures.none.1 absent in
    let clash : true ≡ false = sym c.if-is_some.true ∙ (c.is_some.ensures ∙ none) in cc))

pub returns-then-not-is_ready-clause-queues : goal.returns-then-not-is_ready-clause-queues
returns-then-not-is_ready-clause-queues g c =
    let S = state_of c.args.tables.now in
    rw c.in-Some.is (stays_unready c.args.script.now S (priority_of S) c.args.ready.now c.in-Some.thread (sym c.is_ready.ensures ∙ c.if-not-is_ready.true))

pub returns-in-Some-thread-clause-queues : goal.returns-in-Some-thread-clause-queues
returns-in-Some-thread-clause-queues g c =
    let S = state_of c.args.tables.now in
    let t = c.in-Some.thread in
    let row = c.in-Some-thread.row.now in
    let there : thread_of S t ≡ Some row = sym c.thread.ensures ∙ ap (λ (x : Option (Bor ThreadRow)). option_copied x) c.in-Some-thread.is in
    let known = c.requires.known t row there in
    let own : priority_of S t ≡ row.priority = ap priority_of_row there in
    let none : is_some c.priority_of.result ≡ false = sym c.is_some.ensures ∙ c.if-is_some.false in
    rw (c.in-Some.is, c.add.ensures) (comes c.args.script.now S (priority_of S) c.args.ready.now t row.priority
    (sym c.is_ready.ensures ∙ c.if-not-is_ready.false) (c.priority_of.ensures.none.0 none) known.0 own known.1)
