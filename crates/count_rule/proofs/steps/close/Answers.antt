use Rattle.std.proofs.Common.{rules}
use Rattle.count_rule.proofs.Moved.{closes_allowed}
use Rattle.count_rule.proofs.steps.close.Goals as goal

pub fetch_sub-requires : goal.fetch_sub-requires
fetch_sub-requires c =
    let seat = c.requires.seat in (
      search rules,
      search rules,
      closes_allowed _ _ _ _ seat.1 seat.2 c.requires.looked c.requires.known
          c.requires.failed,
    )
