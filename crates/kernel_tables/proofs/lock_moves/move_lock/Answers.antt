use Rattle.std.proofs.Common.{◌≡◌, ◌∙◌, refl, sym, ap}
use Rattle.sym_base.specs.declared.number.ObjNo.{ObjNo}
use Rattle.std.specs.Prelude.{Option}
use Rattle.state_rows.specs.LockChanges.{signal_answer}
use Rattle.state_rows.specs.Locks.{count_at}
use Rattle.kernel_tables.proofs.LockRows.{best_same}
use Rattle.kernel_tables.proofs.lock_moves.move_lock.Goals as goal

pub returns-in-Lock : goal.returns-in-Lock
returns-in-Lock g c = rw c.in-Lock.is c.lock.ensures

pub returns-in-Unlock : goal.returns-in-Unlock
returns-in-Unlock g c = rw c.in-Unlock.is c.unlock.ensures

pub returns-in-Free : goal.returns-in-Free
returns-in-Free g c = rw c.in-Free.is c.free.ensures

pub returns-in-Signal : goal.returns-in-Signal
returns-in-Signal g c =
    let old = c.args.tables.now in
    let o = c.in-Signal.semaphore in
    let can = rw c.in-Signal.is at c.requires.can in
    let same : c.sem_signal.result ≡ c.in-Signal.field-1 = c.sem_signal.ensures.answer
    ∙ (ap (λ (best : Option ObjNo). signal_answer best (count_at old.locks.rows o))
    (best_same old o c.requires.kept.tied) ∙ sym can.1) in
    rw c.in-Signal.is (λ t. record {
      state = rw (c.sem_signal.ensures.after, same) refl;
      counts = λ p. refl;
      mode = refl;
      notes = refl;
      reuse = refl;
      tied = rw c.sem_signal.ensures.after c.requires.kept.tied;
    })
