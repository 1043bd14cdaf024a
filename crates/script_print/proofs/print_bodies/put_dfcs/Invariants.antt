use Rattle.std.proofs.Common.{◌≡◌, ◌++◌, map, take}
use Rattle.script_print.specs.CanonicalText.{source_texts, dfc_line}
use Rattle.script_print.proofs.print_bodies.put_dfcs.Given as goal

-- the lines so far
abbrev pub invariant-loop-dfc : goal.invariant-loop-dfc
invariant-loop-dfc l = l.out.items ≡ l.fn.out.items ++ source_texts (map dfc_line (take l.dfc-index l.dfcs))
