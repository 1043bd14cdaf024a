use Rattle.std.proofs.Common.{◌≡◌, ap, ◌∙◌, ℕ, nat_lt, List, Option}
use Rattle.std.specs.List.{list_any}
use Rattle.state_rows.specs.ObjectRows.{place_of}
use Rattle.machine.specs.Rows.{object_of}
use Rattle.state_rows.specs.declared.thread.ThreadRow.{ThreadRow}
use Rattle.machine.specs.Out.{seeks}
use Rattle.machine.proofs.Sought.{any_is_out}
use Rattle.machine.proofs.returning.is_sought.Goals as goal

pub returns-then-state : goal.returns-then-state
returns-then-state c =
    c.is_sought_by.ensures
    ∙ ap (λ (place : ℕ). list_any (λ row. nat_lt 0 (seeks c.args.object place row)) c.as_slice.result.now)
    (c.place_of-place.ensures ∙ ap place_of c.object_of.ensures)
    ∙ ap (λ (rows : List (Option ThreadRow)). list_any (λ row. nat_lt 0 (seeks c.args.object (place_of (object_of c.args.state.now c.args.object)) row)) rows)
    c.as_slice.ensures
    ∙ any_is_out c.args.state.now c.args.object c.if-state.true
