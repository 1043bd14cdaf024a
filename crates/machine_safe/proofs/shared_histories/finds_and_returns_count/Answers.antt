use Rattle.machine_safe.proofs.shared_histories.finds_and_returns_count.Goals as goal
use Rattle.machine_safe.proofs.FindsCounted.{finds-counted}
use Rattle.machine_safe.proofs.SharedRuns.{comes-next-all, returns-all}

pub returns : goal.returns
returns c = record {
  counted = finds-counted _ _ c.requires.valid c.requires.shared;
  returns = returns-all _ _ c.requires.valid c.requires.shared;
  next = comes-next-all _ _ c.requires.valid c.requires.shared;
}
