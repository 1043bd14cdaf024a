use Rattle.std.proofs.Common.{sym, ◌∙◌}
use Rattle.requests.specs.contracts.table.Requests.{the_view}
use Rattle.requests.proofs.Known.{known_read}
use Rattle.requests.proofs.table.Requests.finish_device.Goals as goal

pub returns-clause-known : goal.returns-clause-known
returns-clause-known c =
    rw (← c.self.view_is) (known_read (the_view c.self.inside) c.args.device _ c.in_ok-request.request c.self.invariant
    (rw (← c.self.view_is) at c.requires) c.index_mut.ensures.value (sym c.take.ensures.value ∙ c.in_ok-request.was))
