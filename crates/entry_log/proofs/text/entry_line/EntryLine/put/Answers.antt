use Rattle.std.proofs.Common.{◌∙◌, ℕ, List, ◌++◌, ap, arith, length, sym}
use Rattle.std.specs.Prelude.{codes}
use Rattle.entry_log.proofs.EntryParts.{idle_line, line_in_two}
use Rattle.entry_log.specs.EntryLine.{behind_place}
use Rattle.entry_log.proofs.text.entry_line.EntryLine.put.Goals as goal

pub put_letters-requires : goal.put_letters-requires
put_letters-requires c = (omega arith, omega (arith, c.take_place.ensures.short, ap length c.self.view_is))

pub put_behind-requires : goal.put_behind-requires
put_behind-requires c = omega (arith, c.take_place.ensures.short, ap length c.self.view_is)

pub returns-then-is_idle : goal.returns-then-is_idle
returns-then-is_idle c =
    c.put_letters.ensures ∙ ap (λ (l : List ℕ). l ++ codes " idle wait\n") (c.self.view_is ∙ c.take_place.ensures.text)
    ∙ idle_line c.args.entry.now (c.is_idle.ensures c.if-is_idle.true)

pub returns-else-is_idle : goal.returns-else-is_idle
returns-else-is_idle c =
    c.put_behind.ensures.text ∙ ap (λ (l : List ℕ). l ++ behind_place c.args.entry.now) (c.self.view_is ∙ c.take_place.ensures.text)
    ∙ sym (line_in_two c.args.entry.now)
