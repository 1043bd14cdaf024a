use Rattle.std.proofs.Common.{refl}
use Rattle.kernel_tables.proofs.server_moves.move_server.Goals as goal

pub returns-in-Start : goal.returns-in-Start
returns-in-Start g c =
    rw c.in-Start.is (λ t. record {
      state = rw c.add_server.ensures refl;
      counts = λ o. refl;
      mode = refl;
      notes = refl;
      reuse = refl;
      tied = c.requires.kept.tied;
    })

pub returns-in-Join : goal.returns-in-Join
returns-in-Join g c = rw c.in-Join.is c.join.ensures

pub returns-in-Close : goal.returns-in-Close
returns-in-Close g c =
    rw c.in-Close.is (λ t. record {
      state = rw c.begin_closing.ensures refl;
      counts = λ o. refl;
      mode = refl;
      notes = refl;
      reuse = refl;
      tied = c.requires.kept.tied;
    })

pub returns-in-CloseAll : goal.returns-in-CloseAll
returns-in-CloseAll g c =
    rw c.in-CloseAll.is (λ t. record {
      state = rw c.close_all.ensures refl;
      counts = λ o. refl;
      mode = refl;
      notes = refl;
      reuse = refl;
      tied = c.requires.kept.tied;
    })

pub returns-in-SetOpen : goal.returns-in-SetOpen
returns-in-SetOpen g c =
    rw c.in-SetOpen.is (λ t. record {
      state = rw c.set_open.ensures refl;
      counts = λ o. refl;
      mode = refl;
      notes = refl;
      reuse = refl;
      tied = c.requires.kept.tied;
    })

pub returns-in-End : goal.returns-in-End
returns-in-End g c = rw c.in-End.is (λ t. record { state = refl; counts = λ o. refl; mode = refl; notes = refl; reuse = refl; tied = c.requires.kept.tied })
