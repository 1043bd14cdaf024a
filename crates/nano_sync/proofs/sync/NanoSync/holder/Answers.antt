use Rattle.std.proofs.Common.{get_or, sym, ap, ◌∙◌}
use Rattle.std.specs.Prelude.{None}
use Rattle.state_rows.proofs.Soundness.{if_some}
use Rattle.nano_sync.proofs.sync.NanoSync.holder.Goals as goal

pub returns-clause-known : goal.returns-clause-known
returns-clause-known c =
    rw (← c.self.view_is) (if_some _ _ (λ t is. c.self.invariant.holders_known c.args.f t
    (ap (λ xs. get_or xs c.args.f None) (sym c.deref.ensures.value) ∙ sym (c.in_ok-get.ensures.lookup.3.1 None) ∙ is)))
