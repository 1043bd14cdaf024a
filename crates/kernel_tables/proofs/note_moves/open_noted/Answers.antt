use Rattle.std.proofs.Common.{◌≡◌, ◌∙◌, refl, ap, sym}
use Rattle.std.specs.Prelude.{None, slice_index, slice_set, ◌+◌}
use Rattle.std.specs.List.{slice_index_or}
use Rattle.entry_log.specs.declared.effect.Holder.TheVariants.{Temp}
use Rattle.ref_words.specs.declared.answer.Found.{Found}
use Rattle.ref_words.specs.declared.answer.Found.TheVariants.{Held}
use Rattle.objects.specs.Calls.{counts_found}
use Rattle.kernel_tables.specs.StateOf.{state_of}
use Rattle.kernel_tables.proofs.FirstCount.{counts-next}
use Rattle.kernel_tables.proofs.NotesBack.{alive_is}
use Rattle.kernel_tables.proofs.Noting.{may_use}
use Rattle.kernel_tables.proofs.Tying.{tied_opened}
use Rattle.kernel_tables.proofs.note_moves.open_noted.Goals as goal

pub note_gain-requires : goal.note_gain-requires
note_gain-requires g c =
    may_use c.args.tables.now.cleanup (state_of c.args.tables.now) (Temp c.args.thread) c.requires.kept.tied.uses
    (c.requires.unused c.take_back.ensures.was_out)

pub returns-clause-moved : goal.returns-clause-moved
returns-clause-moved g c =
    let old = c.args.tables.now in
    let o = c.args.object in
    let at = c.requires.place c.take_back.ensures.was_out in
    let sought = c.requires.sought c.take_back.ensures.was_out in
    let alive = alive_is (slice_index_or old.objects.rows o.0 None) c.requires.alive in
    let held : c.take_back.result ≡ Held = (c.take_back.ensures.held o.0 sought).1 (alive, sym at) in
    let counts : c.take_back.new.self.counts ≡ slice_set old.objects.counts o.0 (slice_index old.objects.counts o.0 + 1) =
    c.take_back.ensures.counts o.0 sought ∙ ap (λ (f : Found). counts_found f old.objects.counts o.0) held in
    λ t. record {
      state = rw (c.threads_open.ensures, c.take_back.ensures.rows, c.take_back.ensures.makings, c.note_gain.ensures) refl;
      counts = rw counts (counts-next old.objects.counts o (Temp c.args.thread) (c.take_back.ensures.inside o.0 sought held));
      mode = refl;
      notes = c.take_back.ensures.notes;
      reuse = c.take_back.ensures.mode;
      tied =
          rw (c.threads_open.ensures, c.note_gain.ensures)
          (tied_opened old.cleanup old.locks.priorities (state_of old) c.args.thread o c.args.part
          (c.requires.unused c.take_back.ensures.was_out) c.requires.kept.tied);
    }
