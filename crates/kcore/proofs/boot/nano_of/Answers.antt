use Rattle.std.proofs.Common.{◌≡◌, ◌∙◌, ℕ, List, length, arith, ap}
use Rattle.std.proofs.lemmas.List.{length-replicate}
use Rattle.state_rows.specs.declared.nano.NanoRows.{NanoRows}
use Rattle.state_rows.specs.NanoChanges.{new_rows}
use Rattle.kcore.proofs.BootNano.{held_so_far, none_held, all_held, not_yet, one_held}
use Rattle.kcore.proofs.BootTables.{read_at}
use Rattle.kcore.proofs.boot.nano_of.Goals as goal

pub loop-number-init : goal.loop-number-init
loop-number-init c =
    let all = c.args.all.now in
    let with : List ℕ → NanoRows = λ l. record (new_rows (length all) c.args.fast) { suspensions = l } in
    c.in_ok-nano.ensures ∙ ap with (none_held all)

pub hold-requires-clause-thread : goal.hold-requires-clause-thread
hold-requires-clause-thread c =
    let lt = c.loop-number-test.true in
    rw (c.loop-number.invariant, length-replicate {A = ℕ}) (omega arith)

pub hold-requires-clause-none : goal.hold-requires-clause-none
hold-requires-clause-none c = rw c.loop-number.invariant (not_yet c.args.all.now c.loop-number.number)

pub loop-number-preserved : goal.loop-number-preserved
loop-number-preserved c =
    let all = c.args.all.now in
    let n = c.loop-number.number in
    let b = c.index-all-number.result in
    let with : List ℕ → NanoRows = λ l. record (new_rows (length all) c.args.fast) { suspensions = l } in
    c.hold.ensures ∙ rw c.loop-number.invariant (ap with (one_held all n b (read_at all n b c.loop-number-test.true c.index-all-number.is)))

pub returns : goal.returns
returns c =
    let all = c.args.all.now in
    let with : List ℕ → NanoRows = λ l. record (new_rows (length all) c.args.fast) { suspensions = l } in
    let end : c.loop-number.number ≡ length all = omega (arith, c.loop-number.auto.number-end, c.loop-number-test.false) in
    c.loop-number.invariant ∙ (ap (λ (n : ℕ). with (held_so_far all n)) end ∙ ap with (all_held all))
