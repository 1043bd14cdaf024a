use Rattle.std.proofs.Common.{◌≡◌, ◌+◌, ◌-◌, ◌∙◌, ℕ, List, set, arith, sym, ap}
use Rattle.std.proofs.lemmas.List.{set-get_or}
use Rattle.state_rows.specs.declared.nano.NanoRows.{NanoRows}
use Rattle.state_rows.specs.Nano.{critical_count}
use Rattle.state_rows.specs.NanoChanges.{after_leave}
use Rattle.table_moves.proofs.Counted.{one_less}
use Rattle.table_moves.proofs.nano_moves.leave_all.Goals as goal

pub loop-left-init : goal.loop-left-init
loop-left-init c =
    let r = c.args.nano.now in
    let t = c.args.thread in
    let with : List ℕ → NanoRows = λ l. record r { sections = l } in
    let same : critical_count r t - 0 ≡ critical_count r t = omega arith in
    ap with (sym (ap (set r.sections t.0) same ∙ set-get_or r.sections t.0 0))

pub loop-left-preserved : goal.loop-left-preserved
loop-left-preserved c =
    let r = c.args.nano.now in
    let t = c.args.thread in
    let with : List ℕ → NanoRows = λ l. record r { sections = l } in
    let left : ℕ = critical_count r t - c.loop-left._left in
    let less : left - 1 ≡ critical_count r t - (c.loop-left._left + 1) = omega arith in
    c.leave.ensures.after
    ∙ (ap (λ (n : NanoRows). after_leave n t) c.loop-left.invariant
    ∙ (ap with (one_less r.sections t.0 left) ∙ ap (λ (k : ℕ). with (set r.sections t.0 k)) less))
