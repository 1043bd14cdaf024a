use Rattle.std.proofs.Common.{◌∙◌, ap, sym, ◌∷◌, []}
use Rattle.shared_kernel.specs.Values.{base_of}
use Rattle.shared_kernel.proofs.Drawing.{scheduled-back}
use Rattle.shared_kernel.proofs.scheduled.Scheduled.give_back.Goals as goal

pub come_back-requires : goal.come_back-requires
come_back-requires c = record { shareable = c.self.invariant.shareable; opened = rw c.self.view_is c.requires.opened }

pub invariant_of-self : goal.invariant_of-self
invariant_of-self c =
    let s = c.self.inside in
    let said = c.come_back.ensures in
    scheduled-back s.kernel s.slots s.taken c.self.invariant c.come_back.new.kernel said.shareable said.base said.legal c.args.thread said.back.made said.fewer

pub returns : goal.returns
returns c =
    let s = c.self.inside in
    let said = c.come_back.ensures in
    let on = scheduled-back s.kernel s.slots s.taken c.self.invariant c.come_back.new.kernel said.shareable said.base
    said.legal c.args.thread said.back.made said.fewer in
    record {
      base = said.base ∙ ap base_of c.self.view_is;
      grown = rw (← c.self.view_is) (record { rest = said.back.made.more.entry ∷ []; is = sym said.back.made.more.longer });
      back = rw (← c.self.view_is) said.back;
      part = on.part;
      safe = said.safe;
    }
