use Rattle.std.proofs.Common.{◌≡◌, drop}
use Rattle.std.specs.Prelude.{◌&&◌}
use Rattle.script_words.specs.Faults.{fault_by}
use Rattle.script_words.specs.Pieces.{pieces}
use Rattle.script_words.specs.Signs.{each_passes, has_form, is_in_range}
use Rattle.script_words.proofs.line_form.words_fault.Given as goal

-- the words that are left decide, and whether those so far are in range
abbrev pub invariant-loop-i : goal.invariant-loop-i
invariant-loop-i l =
    fault_by (each_passes has_form (drop l.i l.fn.operands) (pieces (drop l.i l.fn.words)))
    (l.are_in_range && each_passes is_in_range (drop l.i l.fn.operands) (pieces (drop l.i l.fn.words)))
    ≡ fault_by (each_passes has_form l.fn.operands (pieces l.fn.words)) (each_passes is_in_range l.fn.operands (pieces l.fn.words))
