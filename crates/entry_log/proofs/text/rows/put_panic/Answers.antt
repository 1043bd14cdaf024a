use Rattle.std.proofs.Common.{append_assoc, w32, rules, FitsSigned}
use Rattle.std.proofs.Math.Facts.{to_z-of_z}
use Rattle.entry_log.proofs.Joins.{preceded_one_more}
use Rattle.entry_log.proofs.text.rows.put_panic.Goals as goal

pub returns-clause-text : goal.returns-clause-text
returns-clause-text c =
    let fits : FitsSigned w32 c.args.reason = search rules in
    simp (
      append_assoc,
      preceded_one_more,
      to_z-of_z fits,
      c.put_reason.ensures.text,
      c.as_slice.ensures.bytes,
      c.put.ensures,
    )
