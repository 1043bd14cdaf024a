use Rattle.std.proofs.Common.{◌∙◌, ℕ, List, ◌++◌, ap}
use Rattle.std.specs.Fmt.{decimal}
use Rattle.entry_log.proofs.NextPlace.{begins_0}
use Rattle.entry_log.proofs.text.entry_line.EntryLine.new.Goals as goal

pub invariant_of-result : goal.invariant_of-result
invariant_of-result c = begins_0 c.put_u32.new.line.items (c.put_u32.ensures.text ∙ ap (λ (l : List ℕ). l ++ decimal 0) c.new-line.ensures)
