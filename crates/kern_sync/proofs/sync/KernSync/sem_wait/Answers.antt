use Rattle.std.proofs.Common.{◌∙◌, sym, ap, arith, true, false, ◌≡◌}
use Rattle.std.proofs.lemmas.List.{get_or_read}
use Rattle.kern_sync.specs.KernelLocks.{with_rows}
use Rattle.kern_sync.specs.Kept.{locks_of}
use Rattle.kern_sync.proofs.Threads.{any_thread}
use Rattle.kern_sync.proofs.Waiting.{waiter_added, waited}
use Rattle.kern_sync.proofs.sync.KernSync.sem_wait.Goals as goal

pub push_back-requires-clause-free : goal.push_back-requires-clause-free
push_back-requires-clause-free c =
    let known = rw (← c.self.view_is) at c.requires.object in
    let read = get_or_read c.self.inside.counts.items c.args.o.0 c.index-count.result.now
    (omega (arith, known, c.self.invariant.counted)) c.index-count.ensures 0 in
    let may = rw (← c.self.view_is) at c.requires.waits in
    let fresh = may (sym read ∙ c.if-count-eq0.true) in
    λ linked. let no : true ≡ false = sym linked ∙ sym (any_thread c.args.t c.self.inside.links.lists) ∙ fresh in absurd (cc)

pub returns-then-count-eq0-clause-after : goal.returns-then-count-eq0-clause-after
returns-then-count-eq0-clause-after c =
    let locks = locks_of c.self.inside.owners.items c.self.inside.counts.items c.self.inside.priorities.items c.self.inside.links in
    let known = rw (← c.self.view_is) at c.requires.object in
    let read = get_or_read c.self.inside.counts.items c.args.o.0 c.index-count.result.now
    (omega (arith, known, c.self.invariant.counted)) c.index-count.ensures 0 in
    let added = waiter_added c.self.inside.owners.items c.self.inside.counts.items c.self.inside.priorities.items c.self.inside.links c.args.o c.args.t in
    rw (← c.self.view_is, c.push_back.ensures) (ap (with_rows locks) (added ∙ waited locks.rows c.args.o c.args.t (sym read ∙ c.if-count-eq0.true)))
