use Rattle.std.proofs.Common.{◌≡◌, ◌<◌, length, arith}
use Rattle.std.proofs.lemmas.Bool.Decides.{nat_tests}
use Rattle.history_check.proofs.ToldRows.{end_followed, end_missing}
use Rattle.history_check.proofs.rows.bad_end.Goals as goal

pub returns-else-is_empty : goal.returns-else-is_empty
returns-else-is_empty c =
    let some : 0 < length c.in-Some.rest.now = grind (arith, nat_tests) in
    end_followed c.args.text.now c.in-Some.rest.now c.args.line c.in-Some.ensures (λ (none : length c.in-Some.rest.now ≡ 0). absurd (omega arith))

pub returns-in-None : goal.returns-in-None
returns-in-None c = end_missing c.args.text.now c.args.line c.in-None.ensures
