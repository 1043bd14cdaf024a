use Rattle.std.proofs.Common.{◌∙◌, arith, ap, length}
use Rattle.machine.specs.Boot.{uses_again}
use Rattle.machine.specs.declared.state.State.{State}
use Rattle.machine_laws.proofs.ValidSlots.{valid_slots_few}
use Rattle.kcore.specs.KernelView.{places_for}
use Rattle.kcore.proofs.BothWays.{boot-kernel}
use Rattle.kcore.proofs.BootPlaces.{enough, each}
use Rattle.kcore.proofs.schedule_run.ScheduleRun.boot.Goals as goal

pub overflow_cast-len : goal.overflow_cast-len
overflow_cast-len c = omega (arith, c.len.ensures, valid_slots_few c.args.script c.requires)

pub places_for-requires : goal.places_for-requires
places_for-requires c = omega (arith, c.len.ensures, valid_slots_few c.args.script c.requires)

pub boot-requires-clause-places : goal.boot-requires-clause-places
boot-requires-clause-places c = rw (c.in_ok-words.ensures.places, c.places_for.ensures) (enough (uses_again c.args.script.version) _)

pub boot-requires-clause-numbers : goal.boot-requires-clause-numbers
boot-requires-clause-numbers c = rw (c.in_ok-words.ensures.places, c.places_for.ensures) (each (uses_again c.args.script.version) _)

pub invariant_of-result : goal.invariant_of-result
invariant_of-result c =
    let core = c.in_ok-core.ensures in
    let few = valid_slots_few c.args.script c.requires in
    rw c.in_ok-part.ensures.items (record {
      few = omega arith;
      alone = ap (λ (S : State). S.mode.shared) core.state;
      kernel =
          boot-kernel c.args.script c.in_ok-core.core (length c.args.script.slots) (length c.args.script.slots) _ _
          (c.in_ok-words.ensures.places ∙ c.places_for.ensures ∙ ap (places_for c.args.script.version) c.len.ensures) c.requires
          (omega (arith, few)) (omega arith) core.state core.queues core.notes;
    })
