use Rattle.std.proofs.Common.{◌∙◌, refl, sym}
use Rattle.kernel_tables.proofs.NotesBack.{is_dead}
use Rattle.kernel_tables.proofs.kernel_core.Core.drop_note.Goals as goal

pub invariant_of-self : goal.invariant_of-self
invariant_of-self g c =
    let kept = c.self.invariant.kept in
    let over = (rw (← c.self.view_is) at c.requires.over) c.take_back.ensures.was_out in
    let counts = c.take_back.ensures.gone (is_dead c.take_back.result (λ held. over (c.take_back.ensures.stands held))) in
    record {
      kept = record {
        counts = rw counts kept.counts;
        tied = kept.tied;
        numbered = kept.numbered;
        reuses = c.take_back.ensures.mode ∙ kept.reuses;
        placed = λ first. rw c.take_back.ensures.notes (kept.placed (sym c.take_back.ensures.mode ∙ first));
      };
      size = c.self.invariant.size;
    }

pub returns-clause-state : goal.returns-clause-state
returns-clause-state g c = rw (← c.self.view_is) (rw (c.take_back.ensures.rows, c.take_back.ensures.makings) refl)
