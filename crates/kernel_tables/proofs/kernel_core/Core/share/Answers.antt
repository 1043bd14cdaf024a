use Rattle.kernel_tables.proofs.kernel_core.Core.share.Goals as goal

pub invariant_of-self : goal.invariant_of-self
invariant_of-self g c =
    let kept = c.self.invariant.kept in
    record {
      kept = record {
        counts = kept.counts;
        tied = kept.tied;
        numbered = kept.numbered;
        reuses = kept.reuses;
        placed = kept.placed;
      };
      size = c.self.invariant.size;
    }
