use Rattle.std.proofs.Common.{◌∙◌, ap, sym, ◌∷◌, []}
use Rattle.shared_kernel.specs.Values.{base_of}
use Rattle.shared_kernel.proofs.free.Free.give_back.Goals as goal

pub come_back-requires : goal.come_back-requires
come_back-requires c = record { shareable = c.self.invariant; opened = rw c.self.view_is c.requires.opened }

pub returns : goal.returns
returns c =
    let said = c.come_back.ensures in
    record {
      base = said.base ∙ ap base_of c.self.view_is;
      grown = rw (← c.self.view_is) (record { rest = said.back.made.more.entry ∷ []; is = sym said.back.made.more.longer });
      back = rw (← c.self.view_is) said.back;
      legal = said.legal;
      safe = said.safe;
    }
