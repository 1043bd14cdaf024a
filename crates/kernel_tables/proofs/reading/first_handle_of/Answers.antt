use native.Mathlib.Omega.{arith}
use Rattle.std.proofs.Common.{◌≡◌, ◌∙◌, [], ap, sym}
use Rattle.std.proofs.lemmas.Grind.{common_steps}
use Rattle.std.specs.List.{slice_index_or}
use Rattle.machine.specs.Holdings.{first_used}
use Rattle.kernel_tables.specs.StateOf.{slots_of}
use Rattle.kernel_tables.proofs.Slots.{first_same}
use Rattle.kernel_tables.proofs.reading.first_handle_of.Goals as goal

pub returns-in-Some : goal.returns-in-Some
returns-in-Some c =
    let slots = c.in-Some.table.now.slots in
    let at : slice_index_or (slots_of c.args.handles.now) c.args.owner.0 [] ≡ slots = grind (arith, common_steps) in
    c.first.ensures ∙ (first_same 0 slots ∙ ap (first_used 0) (sym at))
