use Rattle.std.proofs.Common.{◌≡◌, ◌∙◌, length, refl, sym, ap, arith}
use Rattle.std.specs.Prelude.{Option, Some, None}
use Rattle.std.proofs.lemmas.List.{length-set}
use Rattle.entry_log.specs.declared.effect.Holder.TheVariants.{Own}
use Rattle.sym_base.specs.declared.number.ObjNo.{ObjNo}
use Rattle.cleanup.specs.Lists.{Lists}
use Rattle.kern_sync.specs.KernelLocks.{best_of}
use Rattle.machine.specs.declared.lock_move.LockMove.TheVariants.{Free}
use Rattle.kernel_tables.specs.declared.tables.Tables.{Tables}
use Rattle.kernel_tables.specs.LockMoved.{CanLock}
use Rattle.kernel_tables.specs.Noted.{AreKept}
use Rattle.kernel_tables.specs.StateOf.{state_of}
use Rattle.kernel_tables.proofs.FirstCount.{counts-more}
use Rattle.kernel_tables.proofs.LockRows.{best_same, held_by_count}
use Rattle.kernel_tables.proofs.lock_moves.free.Goals as goal

-- the answer is the waiter that was decided on
next_is : {W N : Type 0} (old : Tables W N) (o u : ObjNo) (best result next : Option ObjNo)
    → CanLock (Free o u best) (state_of old) → AreKept old → result ≡ best_of old.locks o → result ≡ next → best ≡ next
next_is old o u best result next can kept answer is = can.2 ∙ (sym (best_same old o kept.tied) ∙ (sym answer ∙ is))

pub returns-in-None : goal.returns-in-None
returns-in-None g c =
    let old = c.args.tables.now in
    let o = c.args.mutex in
    let is = next_is old o c.args.thread c.args.best c.free.result None c.requires.can c.requires.kept c.free.ensures.answer c.in-None.is in
    let best : best_of old.locks o ≡ None = sym c.free.ensures.answer ∙ c.in-None.is in
    rw is (λ t. record {
      state = rw (c.give.ensures, c.free.ensures.after, best) refl;
      counts = λ p. refl;
      mode = refl;
      notes = refl;
      reuse = refl;
      tied = rw (c.give.ensures, c.free.ensures.after) c.requires.kept.tied;
    })

pub take-requires-clause-thread : goal.take-requires-clause-thread
take-requires-clause-thread g c =
    let old = c.args.tables.now in
    let is = next_is old c.args.mutex c.args.thread c.args.best c.free.result
    (Some c.in-Some.next) c.requires.can c.requires.kept c.free.ensures.answer c.in-Some.is in
    let can = rw is at c.requires.can.3 in
    let here = can.1.thread in
    let long : length c.give-in-Some.new.cleanup.duties ≡ length old.cleanup.duties =
    ap (λ (s : Lists). length s.duties) c.give-in-Some.ensures ∙ length-set old.cleanup.duties c.args.thread.0 _ in
    omega arith

pub take-requires-clause-held : goal.take-requires-clause-held
take-requires-clause-held g c =
    let old = c.args.tables.now in
    let is = next_is old c.args.mutex c.args.thread c.args.best c.free.result
    (Some c.in-Some.next) c.requires.can c.requires.kept c.free.ensures.answer c.in-Some.is in
    let can = rw is at c.requires.can.3 in
    held_by_count old c.args.mutex c.requires.kept can.1.referred

pub returns-in-Some : goal.returns-in-Some
returns-in-Some g c =
    let old = c.args.tables.now in
    let o = c.args.mutex in
    let w = c.in-Some.next in
    let is = next_is old o c.args.thread c.args.best c.free.result (Some w) c.requires.can c.requires.kept c.free.ensures.answer c.in-Some.is in
    let best : best_of old.locks o ≡ Some w = sym c.free.ensures.answer ∙ c.in-Some.is in
    let can = rw is at c.requires.can.3 in
    let known = (held_by_count old o c.requires.kept can.1.referred).known in
    rw is (λ t. record {
      state = rw (c.take.ensures.lists, c.take.ensures.rows, c.take.ensures.makings, c.give-in-Some.ensures, c.free.ensures.after, best) refl;
      counts = rw c.take.ensures.counts (counts-more old.objects.counts o (Own w) known);
      mode = refl;
      notes = c.take.ensures.notes;
      reuse = c.take.ensures.mode;
      tied = rw (c.take.ensures.lists, c.give-in-Some.ensures, c.free.ensures.after) c.requires.kept.tied;
    })
