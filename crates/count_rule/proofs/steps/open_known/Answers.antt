use Rattle.std.proofs.Common.{rules}
use Rattle.count_rule.proofs.Moved.{opens_known_allowed}
use Rattle.count_rule.proofs.steps.open_known.Goals as goal

pub fetch_add-requires : goal.fetch_add-requires
fetch_add-requires c =
    let seat = c.requires.seat in (
      search rules,
      search rules,
      opens_known_allowed _ _ _ _ seat.1 seat.2 c.requires.calm c.requires.known
          c.requires.small,
    )
