use Rattle.requests.specs.contracts.table.Requests.{the_view}
use Rattle.requests.proofs.Known.{known_read}
use Rattle.requests.proofs.table.Requests.cancel.Goals as goal

pub returns-clause-known : goal.returns-clause-known
returns-clause-known c =
    (known_read (the_view c.self.inside) c.args.device _ c.in_ok-request.request c.self.invariant
    (rw (← c.self.view_is) at c.requires.device) c.index.ensures c.in_ok-request.was).1
