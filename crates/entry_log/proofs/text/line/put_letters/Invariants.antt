use Rattle.std.proofs.Common.{◌≡◌, ◌++◌, take}
use Rattle.entry_log.proofs.text.line.put_letters.Given as goal

abbrev pub invariant-loop-letter : goal.invariant-loop-letter
invariant-loop-letter g l = l.line.items ≡ l.initial.line.items ++ take l.letter-index l.letters
