use Rattle.std.proofs.Common.{◌∙◌, arith, refl, sym}
use Rattle.kernel_tables.proofs.kernel_core.Core.send_out.Goals as goal

pub send_out-requires-clause-known_or_gone : goal.send_out-requires-clause-known_or_gone
send_out-requires-clause-known_or_gone g c =
    let agree = c.self.invariant.kept.counts c.args.object in
    let known = rw (← c.self.view_is) at c.requires.known_or_gone in
    λ none. known (sym agree ∙ none)

pub send_out-requires-clause-few : goal.send_out-requires-clause-few
send_out-requires-clause-few g c =
    let agree = c.self.invariant.kept.counts c.args.object in
    let few = rw (← c.self.view_is) at c.requires.few in
    omega arith

pub invariant_of-self : goal.invariant_of-self
invariant_of-self g c =
    let kept = c.self.invariant.kept in
    record {
      kept = record {
        counts = rw c.send_out.ensures.counts kept.counts;
        tied = kept.tied;
        numbered = kept.numbered;
        reuses = c.send_out.ensures.mode ∙ kept.reuses;
        placed = λ first. rw c.send_out.ensures.notes (kept.placed (sym c.send_out.ensures.mode ∙ first));
      };
      size = c.self.invariant.size;
    }

pub returns-clause-state : goal.returns-clause-state
returns-clause-state g c = rw (← c.self.view_is) (rw (c.send_out.ensures.rows, c.send_out.ensures.makings) refl)
