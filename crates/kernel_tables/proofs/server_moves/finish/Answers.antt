use Rattle.std.proofs.Common.{refl}
use Rattle.state_rows.specs.MessageRows.{message_of}
use Rattle.kernel_tables.proofs.GoingServers.{finished_owes}
use Rattle.kernel_tables.proofs.server_moves.finish.Goals as goal

pub returns : goal.returns
returns g c =
    let old = c.args.tables.now in
    let owes = finished_owes old.messages c.args.number c.finish.result
    (message_of old.messages c.args.number) refl c.requires.can.0 c.finish.ensures.finished in
    record {
      state = rw (c.owe_message.ensures, c.finish.ensures.gone, owes) refl;
      counts = λ o. refl;
      mode = refl;
      notes = refl;
      reuse = refl;
      tied = rw c.owe_message.ensures c.requires.tied;
    }
