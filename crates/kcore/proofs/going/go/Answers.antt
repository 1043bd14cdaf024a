use Rattle.std.proofs.Common.{◌+◌, ℕ, length, ap, subst}
use Rattle.kcore.specs.Acting.{WentAt}
use Rattle.kcore.proofs.going.go.Goals as goal

pub returns-clause-went : goal.returns-clause-went
returns-clause-went g c =
    subst (λ (n : ℕ). WentAt c.args.script.now (n + 1) c.args.history.now.items c.go_at.new.entries.items c.args.core.now c.go_at.new.core c.args.actor)
    (ap length c.as_slice.ensures.value) c.go_at.ensures.went
