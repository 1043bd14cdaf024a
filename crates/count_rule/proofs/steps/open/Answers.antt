use Rattle.std.proofs.Common.{rules}
use Rattle.count_rule.proofs.Opened.{opens_allowed}
use Rattle.count_rule.proofs.steps.open.Goals as goal

pub fetch_add-before-requires : goal.fetch_add-before-requires
fetch_add-before-requires c = (search rules, search rules, opens_allowed _ _ _ _ c.requires.out c.requires.place)
