use Rattle.std.proofs.Common.{refl}
use Rattle.kernel_tables.proofs.FirstCount.{nano_counts}
use Rattle.kernel_tables.proofs.moves.make_rare.Goals as goal

pub returns-in-SetPriority-clause-moved : goal.returns-in-SetPriority-clause-moved
returns-in-SetPriority-clause-moved g c = rw c.in-SetPriority.is (c.set_priority.ensures c.args.thread)

pub returns-in-Locks-clause-moved : goal.returns-in-Locks-clause-moved
returns-in-Locks-clause-moved g c = rw c.in-Locks.is (c.move_lock.ensures c.args.thread)

pub returns-in-Logons-clause-moved : goal.returns-in-Logons-clause-moved
returns-in-Logons-clause-moved g c =
    rw c.in-Logons.is (record {
      state = rw c.move_logon.ensures refl;
      counts = λ o. refl;
      mode = refl;
      notes = refl;
      reuse = refl;
      tied = rw c.move_logon.ensures c.requires.kept.tied;
    })

pub returns-in-Death-clause-moved : goal.returns-in-Death-clause-moved
returns-in-Death-clause-moved g c = rw c.in-Death.is c.move_death.ensures

pub returns-in-Fill-clause-moved : goal.returns-in-Fill-clause-moved
returns-in-Fill-clause-moved g c =
    rw c.in-Fill.is (record {
      state = rw c.fill.ensures refl;
      counts = λ o. refl;
      mode = refl;
      notes = refl;
      reuse = refl;
      tied = rw c.fill.ensures c.requires.kept.tied;
    })

pub returns-in-Copies-clause-moved : goal.returns-in-Copies-clause-moved
returns-in-Copies-clause-moved g c = rw c.in-Copies.is (c.move_copy.ensures c.args.thread)

pub returns-in-Nano-clause-moved : goal.returns-in-Nano-clause-moved
returns-in-Nano-clause-moved g c =
    rw c.in-Nano.is (record {
      state = rw c.move_nano.ensures refl;
      counts = nano_counts c.args.tables.now.objects.counts c.in-Nano.change;
      mode = refl;
      notes = refl;
      reuse = refl;
      tied = c.requires.kept.tied;
    })

pub returns-in-Deferred-clause-moved : goal.returns-in-Deferred-clause-moved
returns-in-Deferred-clause-moved g c =
    rw c.in-Deferred.is (record {
      state = rw c.change.ensures refl;
      counts = λ o. refl;
      mode = refl;
      notes = refl;
      reuse = refl;
      tied = c.requires.kept.tied;
    })

pub returns-in-Servers-clause-moved : goal.returns-in-Servers-clause-moved
returns-in-Servers-clause-moved g c = rw c.in-Servers.is (c.move_server.ensures c.args.thread)
