use Rattle.std.proofs.Common.{ap, Bool, false, refl}
use Rattle.kcore.proofs.boot.tables_of.Goals as goal

pub returns : goal.returns
returns g c =
    let others = c.in_ok-empty.ensures in
    record {
      objects = refl;
      threads = others.threads;
      empty = record {
        mode = ap (λ (reuse : Bool). record { shared = false; keep = false; reuse = reuse }) c.uses_again.ensures;
        handles = others.handles;
        cleanup = others.cleanup;
        nano = others.nano;
        deferred = others.deferred;
        requests = others.requests;
        servers = others.servers;
        messages = others.messages;
      };
    }
