use Rattle.std.proofs.Common.{append_assoc, w32, rules, FitsSigned}
use Rattle.std.proofs.Math.Facts.{to_z-of_z}
use Rattle.entry_log.proofs.Joins.{joined_four}
use Rattle.entry_log.proofs.text.effects.put_signal.Goals as goal

pub returns-clause-text : goal.returns-clause-text
returns-clause-text c =
    let fits : FitsSigned w32 c.args.code = search rules in
    simp (
      joined_four,
      append_assoc,
      to_z-of_z fits,
      c.put_code.ensures.text,
      c.put_byte-2.ensures,
      c.put_status.ensures.text,
      c.put_byte.ensures,
      c.put_numbered.ensures.text,
    )
