use Rattle.messages.proofs.Storing.{absent_told}
use Rattle.messages.proofs.records.place_of.Goals as goal

pub returns-clause-absent : goal.returns-clause-absent
returns-clause-absent c =
    rw c.ok.ensures.value (absent_told c.args.numbers.now c.args.m.0 c.binary_search.result c.binary_search.ensures.position c.requires)
