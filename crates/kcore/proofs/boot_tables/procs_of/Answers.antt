use Rattle.std.proofs.Common.{◌≡◌, ◌∙◌, ℕ, ◌+◌, List, length, replicate, set, arith, ap, sym, Option, None}
use Rattle.std.specs.Prelude.{is_some}
use Rattle.std.proofs.lemmas.List.{length-map}
use Rattle.state_rows.specs.declared.thread.ThreadRow.{ThreadRow}
use Rattle.procs.specs.ProcsRows.{ProcsRows}
use Rattle.machine.specs.Boot.{memory_of_row}
use Rattle.kcore.proofs.BootProcs.{made_so_far, none_made, all_made, made_long, not_made, one_made, same_rows}
use Rattle.machine.specs.declared.boot.Born.{Born}
use Rattle.kcore.specs.BootTable.{born_rows}
use Rattle.kcore.proofs.BootCounts.{row_got}
use Rattle.kcore.proofs.BootTables.{read_at}
use Rattle.kcore.proofs.boot_tables.procs_of.Goals as goal

abbrev rows : List (Option ThreadRow) → List (Option (List ℕ)) → ProcsRows
rows threads processes = record { threads = threads; processes = processes }

pub loop-number-init : goal.loop-number-init
loop-number-init c =
    let all = born_rows c.args.all.now in
    let none : List (Option (List ℕ)) = replicate (length all) None in
    let count = length-map c.args.all.now (λ (b : Born). b.thread) in
    c.in_ok-procs.ensures
    ∙ (ap (λ (k : ℕ). rows (replicate k None) (replicate k None)) (sym count)
    ∙ (ap (λ l. rows l none) (none_made (λ x. x) all)
    ∙ ap (rows (made_so_far (λ x. x) all 0)) (none_made memory_of_row all)))

pub add-requires : goal.add-requires
add-requires c =
    let all = born_rows c.args.all.now in
    let n = c.loop-number.number in
    let lt = c.loop-number-test.true in
    let count = length-map c.args.all.now (λ (b : Born). b.thread) in
    rw c.loop-number.invariant (record {
      thread_place = let e = made_long (λ x. x) all n in omega arith;
      process_place = let e = made_long memory_of_row all n in omega arith;
      no_thread = ap is_some (not_made (λ x. x) all n);
      no_process = ap is_some (not_made memory_of_row all n);
    })

pub loop-number-preserved : goal.loop-number-preserved
loop-number-preserved c =
    let all = born_rows c.args.all.now in
    let n = c.loop-number.number in
    let born = c.index-all-number.result in
    let row = born.thread in
    let at = row_got c.args.all.now n born (read_at c.args.all.now n born c.loop-number-test.true c.index-all-number.is) in
    c.add.ensures
    ∙ rw c.loop-number.invariant (ap (λ l. rows l (set (made_so_far memory_of_row all n) n (memory_of_row row)))
    (one_made (λ x. x) all n row at) ∙ ap (rows (made_so_far (λ x. x) all (n + 1)))
    (one_made memory_of_row all n row at))

pub returns : goal.returns
returns c =
    let all = born_rows c.args.all.now in
    let count = length-map c.args.all.now (λ (b : Born). b.thread) in
    let end : c.loop-number.number ≡ length all = omega (arith, c.loop-number.auto.number-end, c.loop-number-test.false) in
    c.loop-number.invariant ∙ (ap (λ (n : ℕ). rows (made_so_far (λ x. x) all n) (made_so_far memory_of_row all n)) end
    ∙ (ap (λ l. rows l (made_so_far memory_of_row all (length all))) (all_made (λ x. x) all ∙ same_rows all) ∙ ap (rows all) (all_made memory_of_row all)))
