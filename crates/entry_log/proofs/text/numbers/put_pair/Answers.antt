use Rattle.std.proofs.Common.{append_assoc}
use Rattle.entry_log.specs.Pair.{pair_text}
use Rattle.entry_log.proofs.Digits.{pair_at}
use Rattle.entry_log.proofs.text.numbers.put_pair.Goals as goal

pub returns : goal.returns
unfolding pair_text
returns c = let p = pair_at c.args.number c.requires.pair in simp (append_assoc, c.put_byte-2.ensures, c.put_byte.ensures, p.0, p.1)
