use Rattle.std.proofs.Common.{◌∙◌, ap, true, length, arith}
use Rattle.table_moves.specs.Notes.{Notes}
use Rattle.shared_kernel.proofs.Backs.{comes-back}
use Rattle.shared_kernel.proofs.Sent.{one-longer}
use Rattle.shared_kernel.proofs.Shareable.{base-on, shareable-on, split-found, suits-shared}
use Rattle.shared_kernel.proofs.acting.come_back.Goals as goal

pub come_back-requires-clause-mode : goal.come_back-requires-clause-mode
come_back-requires-clause-mode c =
    let k = c.args.kernel.now in
    split-found k.history k.mode c.args.ticket.slip.number c.args.thread (c.history.ensures.mode true c.requires.shareable.mode) c.requires.opened.its

pub come_back-requires-clause-settled : goal.come_back-requires-clause-settled
come_back-requires-clause-settled c = c.requires.opened.opened

pub come_back-requires-clause-fits : goal.come_back-requires-clause-fits
come_back-requires-clause-fits c = c.requires.opened.same_words ∙ ap (λ (n : Notes). n.identity) c.notes_out.ensures.notes

pub come_back-requires-clause-its : goal.come_back-requires-clause-its
come_back-requires-clause-its c = c.requires.opened.its

pub come_back-requires-clause-room : goal.come_back-requires-clause-room
come_back-requires-clause-room c =
    let away = c.notes_out.ensures.away c.requires.shareable.mode in
    let many = c.notes_out.ensures.many in
    let room = c.requires.shareable.room in
    let back = c.requires.shareable.back in omega arith

pub entries-requires-clause-mode : goal.entries-requires-clause-mode
entries-requires-clause-mode c = suits-shared c.come_back.new.self.mode c.come_back.ensures.mode

pub entries-requires-clause-few : goal.entries-requires-clause-few
entries-requires-clause-few c =
    let made = c.come_back.ensures.entry.more in
    let longer = one-longer c.args.kernel.now.history c.come_back.new.self.history made.entry made.longer in
    let fewer = c.come_back.ensures.fewer in
    let back = c.requires.shareable.back in omega arith

pub returns-clause-base : goal.returns-clause-base
returns-clause-base c = base-on c.args.kernel.now c.come_back.new.self c.come_back.ensures.script (ap (λ (n : Notes). n.identity) c.come_back.ensures.notes)

pub returns-clause-back : goal.returns-clause-back
returns-clause-back c =
    let k = c.args.kernel.now in
    let said = c.come_back.ensures in
    let legal = c.history.ensures.legal true c.requires.shareable.mode in
    let comes = comes-back k.script k.history c.come_back.new.self.history c.args.thread c.requires.shareable.valid legal said.entry said.was_out in
    record {
      made = said.entry;
      was_out = said.was_out;
      object = comes.object;
      sought = comes.sought;
      found = comes.found;
      tells = comes.tells;
      at = c.entries.ensures.entries;
    }

pub returns-clause-shareable : goal.returns-clause-shareable
returns-clause-shareable c =
    let said = c.come_back.ensures in
    let longer = one-longer c.args.kernel.now.history c.come_back.new.self.history said.entry.more.entry said.entry.more.longer in
    let fewer = said.fewer in
    let back = c.requires.shareable.back in
    shareable-on c.args.kernel.now c.come_back.new.self c.requires.shareable said.script said.room said.mode (omega arith)
