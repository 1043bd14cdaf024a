use Rattle.std.proofs.Common.{◌∙◌, ap}
use Rattle.kcore.specs.Finds.{finder}
use Rattle.ref_words.specs.declared.slip.Slip.{Slip}
use Rattle.turn_lock.specs.Log.{entries_of}
use Rattle.turn_lock.specs.Passes.{known_of}
use Rattle.workers.proofs.work.open.Goals as goal

pub give_back-requires-clause-opened : goal.give_back-requires-clause-opened
give_back-requires-clause-opened g c =
    let said = c.opened.ensures in
    let history = entries_of (known_of c.args.pass.now) in
    record {
      opened = said.opened;
      same_words = said.identity ∙ c.requires.found.same_words;
      its = ap (λ (s : Slip). finder s.number history) said.slip ∙ c.requires.found.its;
    }
