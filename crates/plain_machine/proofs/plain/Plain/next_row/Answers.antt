use Rattle.std.proofs.Common.{◌≤◌, ◌<◌, ◌∙◌, length, subst, sym}
use Rattle.sym_base.specs.declared.number.ObjNo.{ObjNo}
use Rattle.machine.specs.References.{count_of}
use Rattle.machine.specs.FinalRows.{rows_from, IsNextRow}
use Rattle.machine.specs.History.{after_in}
use Rattle.machine.specs.declared.state.State.{State}
use Rattle.move_laws.proofs.Numbers.CountSmall.{count_small}
use Rattle.plain_machine.specs.PlainView.{PlainView}
use Rattle.plain_machine.proofs.Steps.{formed_plain}
use Rattle.plain_machine.proofs.plain.Plain.next_row.Goals as goal

pub next_row-requires-clause-few : goal.next_row-requires-clause-few
next_row-requires-clause-few c =
    let plain = c.self.inside in
    subst (λ (s : State). length s.references.objects ≤ 4096) (sym c.deref.ensures)
    (formed_plain plain.script plain.history plain.state.value plain.ready c.self.invariant).rows.references.sized.objects_few

pub next_row-requires-clause-counts : goal.next_row-requires-clause-counts
next_row-requires-clause-counts c =
    let plain = c.self.inside in
    subst (λ (s : State). (o : ObjNo) → count_of s o < 65536) (sym c.deref.ensures)
    (count_small plain.script plain.state.value (formed_plain plain.script plain.history plain.state.value plain.ready c.self.invariant).rows)

pub returns : goal.returns
returns c =
    subst (λ (v : PlainView). IsNextRow (rows_from (after_in v.shared v.script v.history)) c.args.from c.next_row.result) c.self.view_is
    (subst (λ (s : State). IsNextRow (rows_from s) c.args.from c.next_row.result) (c.deref.ensures ∙ c.self.invariant.state) c.next_row.ensures)
