use Rattle.std.proofs.Common.{◌≡◌, drop}
use Rattle.std.specs.Prelude.{◌&&◌}
use Rattle.script_words.proofs.source.is_printed.Given as goal
use Rattle.script_types.specs.SourceText.{is_printed}

-- the bytes so far, and those that are left
abbrev pub invariant-loop-byte : goal.invariant-loop-byte
invariant-loop-byte l = (l.printed && is_printed (drop l.byte-index l.fn.line)) ≡ is_printed l.fn.line
