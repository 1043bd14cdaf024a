use Rattle.std.proofs.Common.{◌++◌, ap, ◌∙◌}
use Rattle.script_print.specs.CanonicalText.{source_texts, schedule_lines}
use Rattle.script_print.proofs.PartLaws.{canonical_by}
use Rattle.script_print.proofs.print.put_script.Goals as goal

pub returns : goal.returns
returns c =
    canonical_by c.args.script.now c.args.out.now.items c.put_declarations.new.out.items c.put_schedule.new.out.items
    c.put_line.new.out.items c.in_ok-put_declarations.ensures
    (c.in_ok-put_schedule.ensures ∙ ap (λ xs. c.put_declarations.new.out.items ++ source_texts (schedule_lines xs)) c.as_slice.ensures) c.in_ok-put_line.ensures
