use Rattle.machine_safe.proofs.LegalSafety.{legal_safety}
use Rattle.machine_safe.proofs.safe_references.legal_is_safe.Goals as goal
use Rattle.std.proofs.Common.{false}

pub returns : goal.returns
returns c =
    let safe = legal_safety false c.args.script.now c.args.history.now c.requires.valid c.requires.legal in
    record {
      safe = safe.references;
      deaths = safe.deaths;
      messages = safe.messages;
      servers = safe.servers;
      busy = safe.busy;
      waits = safe.waits;
      weights = safe.weights;
    }
