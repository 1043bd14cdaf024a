use Rattle.std.proofs.Common.{◌∙◌, ◌<◌, arith, length, sym, ap, ℕ, List, Option, Some, None, ◌∷◌, ◌+◌}
use Rattle.std.proofs.lemmas.Option.{slice_get-get_or}
use Rattle.sym_base.specs.declared.kind.Exit.{Exit}
use Rattle.entry_log.specs.declared.entry.FinalRow.{FinalRow}
use Rattle.machine_laws.proofs.Reached.LeftRows.{rows_from_left, rows_from_swept}
use Rattle.machine.specs.FinalRows.{exit_of_row, rows_from}
use Rattle.machine.specs.Rows.{thread_of}
use Rattle.kernel_tables.specs.StateOf.{state_of}
use Rattle.kcore.proofs.ListSteps.{slice_get_row}
use Rattle.kcore.proofs.final_rows.next_row.Goals as goal

pub returns-in-Some : goal.returns-in-Some
returns-in-Some g c =
    let S = state_of c.args.tables.now in
    let n = c.loop-number.number in
    let row = c.in-Some.row in
    let left = rows_from_left S n row (slice_get_row c.args.tables.now.objects.rows n row (sym c.in-Some.ensures)) in
    let last : ℕ → Option Exit → List FinalRow = λ k e. record
    { object = record { 0 = n }; kind = row.kind; name = row.name; count = k; exit = e } ∷ rows_from S (n + 1) in
    let counted = ap (λ (k : ℕ). last k (exit_of_row (thread_of S (record { 0 = n })))) (sym (c.count.ensures ∙ c.requires.counts (record { 0 = n }))) in
    sym c.loop-number.invariant ∙ left ∙ counted ∙ ap (last c.count.result) (sym c.exit_of.ensures)

pub loop-number-preserved : goal.loop-number-preserved
loop-number-preserved g c =
    let S = state_of c.args.tables.now in
    let n = c.loop-number.number in
    let inside : n < length S.references.objects = omega (arith, c.loop-number-test.true, c.len-number-end.ensures.numbers) in
    let swept = slice_get-get_or S.references.objects n None inside ∙ ap Some (sym c.in_default.ensures) in
    sym (rows_from_swept S n swept) ∙ c.loop-number.invariant
