use Rattle.std.proofs.Common.{◌≡◌, ◌+◌, ◌-◌, ◌∙◌, ℕ, List, set, arith, sym, ap}
use Rattle.std.proofs.lemmas.List.{set-get_or}
use Rattle.state_rows.specs.declared.nano.NanoRows.{NanoRows}
use Rattle.state_rows.specs.Nano.{suspend_count}
use Rattle.state_rows.specs.NanoChanges.{after_resume}
use Rattle.table_moves.proofs.Counted.{one_less}
use Rattle.table_moves.proofs.nano_moves.resume_all.Goals as goal

pub loop-left-init : goal.loop-left-init
loop-left-init c =
    let r = c.args.nano.now in
    let t = c.args.thread in
    let with : List ℕ → NanoRows = λ l. record r { suspensions = l } in
    let same : suspend_count r t - 0 ≡ suspend_count r t = omega arith in
    ap with (sym (ap (set r.suspensions t.0) same ∙ set-get_or r.suspensions t.0 0))

pub loop-left-preserved : goal.loop-left-preserved
loop-left-preserved c =
    let r = c.args.nano.now in
    let t = c.args.thread in
    let with : List ℕ → NanoRows = λ l. record r { suspensions = l } in
    let left : ℕ = suspend_count r t - c.loop-left._left in
    let less : left - 1 ≡ suspend_count r t - (c.loop-left._left + 1) = omega arith in
    c.resume.ensures.after
    ∙ (ap (λ (n : NanoRows). after_resume n t) c.loop-left.invariant
    ∙ (ap with (one_less r.suspensions t.0 left) ∙ ap (λ (k : ℕ). with (set r.suspensions t.0 k)) less))
