use Rattle.std.proofs.Common.{Bool, ap, refl, ◌∙◌}
use Rattle.machine.specs.Kept.{dies}
use Rattle.kernel_tables.specs.Choosing.{mode_after}
use Rattle.kernel_tables.specs.Moved.{chosen_state, dead_of}
use Rattle.kernel_tables.specs.StateOf.{state_of}
use Rattle.kernel_tables.proofs.LastClose.{last_chosen}
use Rattle.kernel_tables.proofs.FirstCount.{counts-less}
use Rattle.kernel_tables.proofs.closings.pay_close.Goals as goal

pub returns-clause-moved : goal.returns-clause-moved
returns-clause-moved g c =
    let old = c.args.tables.now in
    let o = c.args.object in
    let closed = c.close-last.ensures in
    let known = c.requires.can.0.known in
    let agree = c.requires.kept.counts o in
    let dying = last_chosen old.objects.counts old.objects.notes
    (state_of old) o c.requires.can.0.there c.close-last.result c.close-last.new.tables.mode c.requires.may agree closed.only closed.out
    closed.mode in
    record {
      state = closed.state ∙ rw (c.drop_first_owed.ensures, c.link_of-link.ensures, dying) refl;
      counts = rw closed.counts (counts-less old.objects.counts o c.args.holder (dies (chosen_state old c.close-last.new.tables) o) (rw agree known));
      tied = closed.tied;
      mode = closed.mode ∙ ap (λ (b : Bool). mode_after (dead_of b o) old.mode) dying;
      notes = closed.notes;
      reuse = closed.reuse;
    }

pub returns-clause-dead : goal.returns-clause-dead
returns-clause-dead g c =
    let old = c.args.tables.now in
    let o = c.args.object in
    let closed = c.close-last.ensures in
    c.dead_of.ensures
    ∙ ap (λ (b : Bool). dead_of b o) (last_chosen old.objects.counts old.objects.notes
    (state_of old) o c.requires.can.0.there c.close-last.result c.close-last.new.tables.mode c.requires.may
    (c.requires.kept.counts o) closed.only closed.out closed.mode)
