use Rattle.std.proofs.Common.{false}
use Rattle.kcore.proofs.ModesSuit.{fresh-suits}
use Rattle.kernel_tests.proofs.act_tests.told_of_last.Goals as goal

pub act-requires-clause-mode : goal.act-requires-clause-mode
act-requires-clause-mode c = fresh-suits false _ c.requires.fresh
