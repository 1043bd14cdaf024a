use Rattle.std.proofs.Common.{Bool, ap, refl, ◌∙◌}
use Rattle.machine.specs.Kept.{dies}
use Rattle.kernel_tables.specs.Choosing.{mode_after}
use Rattle.kernel_tables.specs.Moved.{chosen_state, dead_of}
use Rattle.kernel_tables.specs.StateOf.{state_of}
use Rattle.kernel_tables.proofs.LastClose.{last_chosen}
use Rattle.kernel_tables.proofs.FirstCount.{counts-less}
use Rattle.kernel_tables.proofs.Noting.{duties_lost, mutexes_lost, logons_lost, servers_lost}
use Rattle.kernel_tables.proofs.Owning.{may_disown, may_lost}
use Rattle.kernel_tables.proofs.Tying.{tied_lost}
use Rattle.kernel_tables.proofs.closings.lose.Goals as goal

pub owned_lose-requires : goal.owned_lose-requires
owned_lose-requires g c =
    let old = c.args.tables.now.cleanup in
    rw c.note_lost.ensures (may_lost old c.args.holder c.args.object (may_disown old c.args.holder c.args.object c.requires.kept.tied.listed c.requires.can.2))

pub close-last-requires-clause-tied : goal.close-last-requires-clause-tied
close-last-requires-clause-tied g c =
    let old = c.args.tables.now in
    rw (c.threads_lose.ensures, c.owned_lose.ensures, c.note_lost.ensures)
    (tied_lost old.cleanup old.locks.priorities old.procs.threads c.args.holder c.requires.kept.tied)

pub returns-clause-moved : goal.returns-clause-moved
returns-clause-moved g c =
    let old = c.args.tables.now in
    let o = c.args.object in
    let closed = c.close-last.ensures in
    let known = c.requires.can.0.known in
    let agree = c.requires.kept.counts o in
    let dying = last_chosen old.objects.counts old.objects.notes
    (state_of old) o c.requires.can.0.there c.close-last.result c.close-last.new.tables.mode c.requires.may agree closed.only closed.out
    closed.mode in
    record {
      state =
          closed.state
          ∙ rw (
            c.lose_slot.ensures,
            c.threads_lose.ensures,
            c.servers_lose.ensures,
            c.owned_lose.ensures,
            c.note_lost.ensures,
            c.link_of-link.ensures,
            servers_lost old.cleanup c.args.holder,
            duties_lost old.cleanup c.args.holder,
            mutexes_lost old.cleanup c.args.holder,
            logons_lost old.cleanup c.args.holder,
            dying,
          ) refl;
      counts = rw closed.counts (counts-less old.objects.counts o c.args.holder (dies (chosen_state old c.close-last.new.tables) o) (rw agree known));
      tied = closed.tied;
      mode = closed.mode ∙ ap (λ (b : Bool). mode_after (dead_of b o) old.mode) dying;
      notes = closed.notes;
      reuse = closed.reuse;
    }

pub returns-clause-dead : goal.returns-clause-dead
returns-clause-dead g c =
    let old = c.args.tables.now in
    let o = c.args.object in
    let closed = c.close-last.ensures in
    c.dead_of.ensures
    ∙ ap (λ (b : Bool). dead_of b o) (last_chosen old.objects.counts old.objects.notes
    (state_of old) o c.requires.can.0.there c.close-last.result c.close-last.new.tables.mode c.requires.may
    (c.requires.kept.counts o) closed.only closed.out closed.mode)
