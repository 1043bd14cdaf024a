use Rattle.std.proofs.Common.{◌≡◌, ◌++◌, map, take}
use Rattle.script_print.specs.CanonicalText.{source_texts, idfc_line}
use Rattle.script_print.proofs.print_bodies.put_idfcs.Given as goal

-- the lines so far
abbrev pub invariant-loop-idfc : goal.invariant-loop-idfc
invariant-loop-idfc l = l.out.items ≡ l.fn.out.items ++ source_texts (map idfc_line (take l.idfc-index l.idfcs))
