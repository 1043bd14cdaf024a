use Rattle.std.proofs.Common.{◌≡◌, ◌++◌, drop}
use Rattle.state_rows.specs.DeferredChanges.{without}
use Rattle.plain_rows.proofs.calls.without.Given as goal

abbrev pub invariant-loop-other : goal.invariant-loop-other
invariant-loop-other l = l.rest.items ++ without l.dfc (drop l.other-index l.calls) ≡ without l.dfc l.calls
