use Rattle.std.proofs.Common.{◌≡◌, ℕ, replicate, rules, arith}
use Rattle.ready_list.proofs.Keeping.{fresh_kept}
use Rattle.ready_list.proofs.ready.ReadyList.new.Goals as goal

pub invariant_of-result : goal.invariant_of-result
invariant_of-result c =
    let priorities : c.in_ok-priorities.priorities.items ≡ replicate {A = ℕ} c.args.threads 0 = search rules in
    rw (c.in_ok-links.ensures, priorities) (fresh_kept c.args.threads (omega arith))
