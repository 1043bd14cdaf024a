-- What a line adds to the numbers that a reader keeps.
use Rattle.std.specs.Prelude.{Bool, false, nat_lt, length}
use Rattle.script_types.specs.declared.context.Context.{Context}
use Rattle.script_types.specs.declared.source_line.SourceLine.{SourceLine}
use Rattle.script_types.specs.declared.source_line.SourceLine.TheVariants as line

-- whether a line is one more instruction of a thread
abbrev pub adds_instr : Context → SourceLine → Bool
adds_instr c (line.Instr what) = nat_lt 0 (length c.script.threads)
adds_instr c _ = false
