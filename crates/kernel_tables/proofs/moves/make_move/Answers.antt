use Rattle.std.proofs.Common.{refl}
use Rattle.machine.specs.Moves.{with_kept, with_missed, with_message, with_part, with_register, with_waiting}
use Rattle.state_rows.specs.declared.thread.Waiting.TheVariants as waiting
use Rattle.kernel_tables.proofs.Tying.{tied_row}
use Rattle.kernel_tables.proofs.moves.make_move.Goals as goal

pub gain-requires-clause-can : goal.gain-requires-clause-can
gain-requires-clause-can g c = rw c.in-Gain.is at c.requires.can

pub returns-in-Make-clause-moved : goal.returns-in-Make-clause-moved
returns-in-Make-clause-moved g c = rw c.in-Make.is (c.make.ensures c.args.thread)

pub returns-in-Gain-clause-moved : goal.returns-in-Gain-clause-moved
returns-in-Gain-clause-moved g c = rw c.in-Gain.is (c.gain.ensures c.args.thread)

pub returns-in-Advance-clause-moved : goal.returns-in-Advance-clause-moved
returns-in-Advance-clause-moved g c = rw c.in-Advance.is (c.advance.ensures c.args.thread)

pub returns-in-Find-clause-moved : goal.returns-in-Find-clause-moved
returns-in-Find-clause-moved g c = rw c.in-Find.is (c.find.ensures c.args.thread)

pub make-requires-clause-place : goal.make-requires-clause-place
make-requires-clause-place g c = rw c.in-Make.is at c.requires.place

pub open_found-requires-clause-can : goal.open_found-requires-clause-can
open_found-requires-clause-can g c = rw c.in-Open.is at c.requires.can

pub returns-in-Open-clause-moved : goal.returns-in-Open-clause-moved
returns-in-Open-clause-moved g c = rw c.in-Open.is (c.open_found.ensures c.args.thread)

pub returns-in-Miss-clause-moved : goal.returns-in-Miss-clause-moved
returns-in-Miss-clause-moved g c =
    let old = c.args.tables.now in
    rw c.in-Miss.is (record {
      state = rw c.threads_miss.ensures refl;
      counts = λ o. refl;
      mode = refl;
      notes = refl;
      reuse = refl;
      tied =
          rw c.threads_miss.ensures (tied_row old.cleanup old.locks.priorities old.procs.threads c.in-Miss.other with_missed
          (λ r. refl) (λ r. refl) c.requires.kept.tied);
    })

pub returns-in-GoOn-clause-moved : goal.returns-in-GoOn-clause-moved
returns-in-GoOn-clause-moved g c =
    let old = c.args.tables.now in
    rw c.in-GoOn.is (record {
      state = rw c.threads_go_on.ensures refl;
      counts = λ o. refl;
      mode = refl;
      notes = refl;
      reuse = refl;
      tied =
          rw c.threads_go_on.ensures (tied_row old.cleanup old.locks.priorities old.procs.threads c.in-GoOn.other
          (with_part c.in-GoOn.part) (λ r. refl) (λ r. refl) c.requires.kept.tied);
    })

pub returns-in-Write-clause-moved : goal.returns-in-Write-clause-moved
returns-in-Write-clause-moved g c =
    let old = c.args.tables.now in
    rw c.in-Write.is (record {
      state = rw c.threads_write.ensures refl;
      counts = λ o. refl;
      mode = refl;
      notes = refl;
      reuse = refl;
      tied =
          rw c.threads_write.ensures (tied_row old.cleanup old.locks.priorities old.procs.threads c.in-Write.other
          (with_register c.in-Write.register c.in-Write.value) (λ r. refl) (λ r. refl) c.requires.kept.tied);
    })

pub returns-in-Wait-clause-moved : goal.returns-in-Wait-clause-moved
returns-in-Wait-clause-moved g c =
    let old = c.args.tables.now in
    rw c.in-Wait.is (record {
      state = rw c.threads_wait.ensures refl;
      counts = λ o. refl;
      mode = refl;
      notes = refl;
      reuse = refl;
      tied =
          rw c.threads_wait.ensures (tied_row old.cleanup old.locks.priorities old.procs.threads c.in-Wait.other
          (with_waiting c.in-Wait.what) (λ r. refl) (λ r. refl) c.requires.kept.tied);
    })

pub returns-in-Wake-clause-moved : goal.returns-in-Wake-clause-moved
returns-in-Wake-clause-moved g c =
    let old = c.args.tables.now in
    rw c.in-Wake.is (record {
      state = rw c.threads_wait-in-Wake.ensures refl;
      counts = λ o. refl;
      mode = refl;
      notes = refl;
      reuse = refl;
      tied =
          rw c.threads_wait-in-Wake.ensures (tied_row old.cleanup old.locks.priorities old.procs.threads c.in-Wake.other
          (with_waiting waiting.Nothing) (λ r. refl) (λ r. refl) c.requires.kept.tied);
    })

pub returns-in-Keep-clause-moved : goal.returns-in-Keep-clause-moved
returns-in-Keep-clause-moved g c =
    let old = c.args.tables.now in
    rw c.in-Keep.is (record {
      state = rw c.threads_keep.ensures refl;
      counts = λ o. refl;
      mode = refl;
      notes = refl;
      reuse = refl;
      tied =
          rw c.threads_keep.ensures (tied_row old.cleanup old.locks.priorities old.procs.threads c.in-Keep.other
          (with_kept c.in-Keep.number) (λ r. refl) (λ r. refl) c.requires.kept.tied);
    })

pub returns-in-WriteMessage-clause-moved : goal.returns-in-WriteMessage-clause-moved
returns-in-WriteMessage-clause-moved g c =
    let old = c.args.tables.now in
    rw c.in-WriteMessage.is (record {
      state = rw c.threads_write_message.ensures refl;
      counts = λ o. refl;
      mode = refl;
      notes = refl;
      reuse = refl;
      tied =
          rw c.threads_write_message.ensures (tied_row old.cleanup old.locks.priorities old.procs.threads
          c.in-WriteMessage.other (with_message c.in-WriteMessage.register c.in-WriteMessage.number) (λ r. refl)
          (λ r. refl) c.requires.kept.tied);
    })

pub returns-in-PutDown-clause-moved : goal.returns-in-PutDown-clause-moved
returns-in-PutDown-clause-moved g c = rw c.in-PutDown.is (c.put_down.ensures c.args.thread)

pub lose-requires-clause-can : goal.lose-requires-clause-can
lose-requires-clause-can g c = rw c.in-Lose.is at c.requires.can

pub lose-requires-clause-may : goal.lose-requires-clause-may
lose-requires-clause-may g c = (rw c.in-Lose.is at c.requires.may) refl

pub returns-in-Lose-clause-moved : goal.returns-in-Lose-clause-moved
returns-in-Lose-clause-moved g c = rw c.in-Lose.is c.lose.ensures.moved

pub returns-in-Lose-clause-dead : goal.returns-in-Lose-clause-dead
returns-in-Lose-clause-dead g c = rw c.in-Lose.is c.lose.ensures.dead

pub returns-in-Requests-clause-moved : goal.returns-in-Requests-clause-moved
returns-in-Requests-clause-moved g c = rw c.in-Requests.is (c.make_request.ensures.moved c.args.thread)

pub returns-in-Messages-clause-moved : goal.returns-in-Messages-clause-moved
returns-in-Messages-clause-moved g c = rw c.in-Messages.is c.make_message.ensures.moved
