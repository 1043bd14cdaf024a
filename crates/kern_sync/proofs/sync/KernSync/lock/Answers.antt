use Rattle.std.proofs.Common.{rules, ◌∙◌, get_or, Bool, Option, None, ◌++◌, ◌∷◌, [], sym, ap, true, false, ◌≡◌}
use Rattle.std.specs.Prelude.{◌==◌, if◌then◌else◌}
use Rattle.std.proofs.lemmas.List.{get_or_read}
use Rattle.state_rows.specs.declared.locks.Locked.TheVariants.{Again, Waits}
use Rattle.state_rows.specs.declared.locks.Owner.{Owner}
use Rattle.state_rows.specs.LockChanges.{lock_answer}
use Rattle.state_rows.specs.Locks.{waiters_at}
use Rattle.kern_sync.specs.KernelLocks.{with_rows}
use Rattle.kern_sync.specs.Kept.{locks_of}
use Rattle.kern_sync.proofs.Threads.{any_thread}
use Rattle.kern_sync.proofs.Waiting.{waiter_added, waiters_alone}
use Rattle.kern_sync.proofs.sync.KernSync.lock.Goals as goal

pub push_back-requires-clause-free : goal.push_back-requires-clause-free
push_back-requires-clause-free c =
    let may = rw (← c.self.view_is) at c.requires.waits in
    let known = rw (← c.self.view_is) at c.requires.object in
    let read = get_or_read c.self.inside.owners.items c.args.o.0 c.index.result.now known c.index.ensures None in
    let other : (c.in-Some-2.field-0.thread.0 == c.args.t.0) ≡ false = search rules in
    let waits : lock_answer (get_or c.self.inside.owners.items c.args.o.0 None) c.args.t ≡ Waits =
    ap (λ (x : Option Owner). lock_answer x c.args.t) (sym read ∙ c.in-Some-2.is)
    ∙ ap (λ (b : Bool). if b then Again else Waits) other in
    let fresh = may waits in
    λ linked. let no : true ≡ false = sym linked ∙ sym (any_thread c.args.t c.self.inside.links.lists) ∙ fresh in absurd (cc)

pub returns-in-Some-2-clause-after : goal.returns-in-Some-2-clause-after
returns-in-Some-2-clause-after c =
    let locks = locks_of c.self.inside.owners.items c.self.inside.counts.items c.self.inside.priorities.items c.self.inside.links in
    let added = waiter_added c.self.inside.owners.items c.self.inside.counts.items c.self.inside.priorities.items c.self.inside.links c.args.o c.args.t in
    rw (← c.self.view_is, c.push_back.ensures)
    (ap (with_rows locks) (added ∙ waiters_alone locks.rows c.args.o (waiters_at locks.rows c.args.o ++ c.args.t ∷ [])))
