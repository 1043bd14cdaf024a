use Rattle.std.proofs.Common.{◌∙◌, ◌+◌, ◌≤◌, ap, length, arith, subst, sym}
use Rattle.std.proofs.lemmas.List.{length-map}
use Rattle.kern_sync.specs.KernelLocks.{KernelLocks}
use Rattle.machine.specs.declared.boot.Born.{Born}
use Rattle.machine.specs.Choice.{priority_of_row}
use Rattle.kcore.specs.BootTable.{born_rows, no_locks}
use Rattle.kcore.proofs.BootCounts.{row_at}
use Rattle.kcore.proofs.BootProcs.{RankedTo, none_ranked, one_ranked, all_ranked}
use Rattle.kcore.proofs.BootTables.{read_at}
use Rattle.kcore.proofs.boot_tables.locks_of.Goals as goal

pub loop-number-init : goal.loop-number-init
loop-number-init c = none_ranked c.in_ok-locks.locks (born_rows c.args.all.now) c.in_ok-locks.ensures

pub set_priority-requires : goal.set_priority-requires
set_priority-requires c =
    let lt = c.loop-number-test.true in
    let few = c.requires in
    let long = c.loop-number.invariant.long in omega arith

pub loop-number-preserved : goal.loop-number-preserved
loop-number-preserved c =
    let all = c.args.all.now in
    let n = c.loop-number.number in
    let b = c.index-all-number.result in
    let at = read_at all n b c.loop-number-test.true c.index-all-number.is in
    let lt = c.loop-number-test.true in
    let few = c.requires in
    let long = c.loop-number.invariant.long in
    subst (λ (l : KernelLocks). RankedTo l (born_rows all) (n + 1)) (sym c.set_priority.ensures)
    (one_ranked c.loop-number.locks (born_rows all) n c.priority_of.result (omega arith)
    (c.priority_of.ensures ∙ ap priority_of_row (sym (row_at all n b at))) c.loop-number.invariant)

pub returns-clause-rows : goal.returns-clause-rows
unfolding no_locks
returns-clause-rows c = c.loop-number.invariant.rows

pub returns-clause-ranks : goal.returns-clause-ranks
returns-clause-ranks c =
    let all = c.args.all.now in
    let past : length (born_rows all) ≤ c.loop-number.number = let a = c.loop-number-test.false in
    let count = length-map all (λ (b : Born). b.thread) in
    omega arith in
    all_ranked c.loop-number.locks (born_rows all) c.loop-number.number past c.loop-number.invariant

pub returns-clause-sized : goal.returns-clause-sized
returns-clause-sized c = c.loop-number.invariant.long
