use Rattle.std.proofs.Common.{◌≡◌, ◌∙◌, length, refl, sym, ap, arith}
use Rattle.std.proofs.lemmas.List.{length-set}
use Rattle.entry_log.specs.declared.effect.Holder.TheVariants.{Own}
use Rattle.sym_base.specs.declared.number.ObjNo.{ObjNo}
use Rattle.state_rows.specs.declared.locks.Unlocked.{Unlocked}
use Rattle.state_rows.specs.declared.locks.Unlocked.TheVariants.{Freed, Passed}
use Rattle.state_rows.specs.LockChanges.{unlock_answer}
use Rattle.state_rows.specs.Locks.{owner_at}
use Rattle.cleanup.specs.Lists.{Lists}
use Rattle.kern_sync.specs.KernelLocks.{best_of}
use Rattle.machine.specs.declared.lock_move.LockMove.TheVariants.{Unlock}
use Rattle.kernel_tables.specs.declared.tables.Tables.{Tables}
use Rattle.kernel_tables.specs.LockMoved.{CanLock}
use Rattle.kernel_tables.specs.Noted.{AreKept}
use Rattle.kernel_tables.specs.StateOf.{state_of}
use Rattle.kernel_tables.proofs.FirstCount.{counts-more}
use Rattle.kernel_tables.proofs.LockRows.{best_same, held_by_count}
use Rattle.kernel_tables.proofs.lock_moves.unlock.Goals as goal

pub returns-in-Freed : goal.returns-in-Freed
returns-in-Freed g c =
    let old = c.args.tables.now in
    let o = c.args.mutex in
    let is : c.args.unlocked ≡ Freed = c.requires.can.1
    ∙ (ap (unlock_answer (owner_at old.locks.rows o) c.args.thread) (sym (best_same old o c.requires.kept.tied))
    ∙ (sym c.unlock.ensures.answer ∙ c.in-Freed.is)) in
    rw is (λ t. record {
      state = rw (c.give.ensures, c.unlock.ensures.after, c.in-Freed.is) refl;
      counts = λ p. refl;
      mode = refl;
      notes = refl;
      reuse = refl;
      tied = rw (c.give.ensures, c.unlock.ensures.after) c.requires.kept.tied;
    })

-- the answer is the one that was decided on
passed_is : {W N : Type 0} (old : Tables W N) (o u w : ObjNo) (unlocked result : Unlocked)
    → CanLock (Unlock o u unlocked) (state_of old) → AreKept old
    → result ≡ unlock_answer (owner_at old.locks.rows o) u (best_of old.locks o) → result ≡ Passed w
    → unlocked ≡ Passed w
passed_is old o u w unlocked result can kept answer is =
    can.1 ∙ (ap (unlock_answer (owner_at old.locks.rows o) u) (sym (best_same old o kept.tied)) ∙ (sym answer ∙ is))

pub take-requires-clause-thread : goal.take-requires-clause-thread
take-requires-clause-thread g c =
    let old = c.args.tables.now in
    let is = passed_is old c.args.mutex c.args.thread c.in-Passed.waiter c.args.unlocked c.unlock.result c.requires.can
    c.requires.kept c.unlock.ensures.answer c.in-Passed.is in
    let can = rw is at c.requires.can.2 in
    let here = can.1.thread in
    let long : length c.give-in-Passed.new.cleanup.duties ≡ length old.cleanup.duties =
    ap (λ (s : Lists). length s.duties) c.give-in-Passed.ensures ∙ length-set old.cleanup.duties c.args.thread.0 _ in
    omega arith

pub take-requires-clause-held : goal.take-requires-clause-held
take-requires-clause-held g c =
    let old = c.args.tables.now in
    let is = passed_is old c.args.mutex c.args.thread c.in-Passed.waiter c.args.unlocked c.unlock.result c.requires.can
    c.requires.kept c.unlock.ensures.answer c.in-Passed.is in
    let can = rw is at c.requires.can.2 in
    held_by_count old c.args.mutex c.requires.kept can.1.referred

pub returns-in-Passed : goal.returns-in-Passed
returns-in-Passed g c =
    let old = c.args.tables.now in
    let o = c.args.mutex in
    let w = c.in-Passed.waiter in
    let is = passed_is old o c.args.thread w c.args.unlocked c.unlock.result c.requires.can c.requires.kept c.unlock.ensures.answer c.in-Passed.is in
    let can = rw is at c.requires.can.2 in
    let known = (held_by_count old o c.requires.kept can.1.referred).known in
    rw is (λ t. record {
      state = rw (c.take.ensures.lists, c.take.ensures.rows, c.take.ensures.makings, c.give-in-Passed.ensures, c.unlock.ensures.after, c.in-Passed.is) refl;
      counts = rw c.take.ensures.counts (counts-more old.objects.counts o (Own w) known);
      mode = refl;
      notes = c.take.ensures.notes;
      reuse = c.take.ensures.mode;
      tied = rw (c.take.ensures.lists, c.give-in-Passed.ensures, c.unlock.ensures.after) c.requires.kept.tied;
    })
