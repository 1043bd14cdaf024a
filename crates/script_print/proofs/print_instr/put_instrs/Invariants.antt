use Rattle.std.proofs.Common.{◌≡◌, ◌++◌, map, take}
use Rattle.script_print.specs.CanonicalText.{source_texts}
use Rattle.script_types.specs.declared.source_line.SourceLine.TheVariants as line
use Rattle.script_print.proofs.print_instr.put_instrs.Given as goal

-- the lines so far
abbrev pub invariant-loop-what : goal.invariant-loop-what
invariant-loop-what l = l.out.items ≡ l.fn.out.items ++ source_texts (map line.Instr (take l.what-index l.instrs))
