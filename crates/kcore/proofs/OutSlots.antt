-- Whom a slot lets act, in a kernel that callers may share.
use Rattle.std.proofs.Common.{◌≡◌, ◌∙◌, true, false, Bool, List, [], ◌∷◌, ap, refl}
use Rattle.sym_base.specs.declared.number.ObjNo.{ObjNo}
use Rattle.script_types.specs.declared.script.Script.{Script}
use Rattle.script_types.specs.declared.script.Slot.{Slot}
use Rattle.script_types.specs.declared.script.Slot.TheVariants as slot
use Rattle.entry_log.specs.declared.entry.Actor.{Actor}
use Rattle.entry_log.specs.declared.entry.Entry.{Entry}
use Rattle.ready_list.specs.Arrival.{AreQueuesOf}
use Rattle.machine.specs.declared.mode.Mode.{Mode}
use Rattle.machine.specs.declared.state.State.{State}
use Rattle.machine.specs.Arrived.{arrived_in}
use Rattle.machine.specs.Boot.{boot_in, ready_at_boot, uses_again}
use Rattle.machine.specs.Choice.{priority_of}
use Rattle.machine.specs.History.{after_in}
use Rattle.machine.specs.Run.{slot_actor}
use Rattle.kernel_tables.specs.CoreView.{CoreView}
use Rattle.kernel_tables.specs.ReadyQueues.{pairs}
use Rattle.kcore.specs.KernelMode.{Suits, mode_of}
use Rattle.kcore.specs.KernelView.{Stands}

-- the choice of the next actor doesn't ask how the kernel is called
chosen-same : (S : State) (a b : Mode) (qs : List ObjNo) (s : Slot) → slot_actor (record S { mode = a }) qs s ≡ slot_actor (record S { mode = b }) qs s
chosen-same S a b qs slot.Go = refl
chosen-same S a b qs (slot.Irq k) = refl
chosen-same S a b qs slot.Tick = refl

pub slot-out : {W : Type 0} (script : Script) (history : List Entry) (core : CoreView W) (s : Slot) (actor : Actor)
    → Stands core.state.mode.shared script history core → Suits true (mode_of core.state.mode.shared history)
    → ((qs : List ObjNo) → AreQueuesOf (pairs (priority_of core.state) qs) core.ready → actor
    ≡ slot_actor core.state qs s)
    → actor ≡ slot_actor (after_in true script history) (arrived_in true script history) s
slot-out script history core s actor stands suits chosen_is = by core.state.mode.shared history stands suits
  where
    by : (called : Bool) (es : List Entry) → Stands called script es core → Suits true (mode_of called es) → actor
        ≡ slot_actor (after_in true script es) (arrived_in true script es) s
    by true es h suits = chosen_is (arrived_in true script es) h.queues.queues ∙ ap (λ (S : State). slot_actor S (arrived_in true script es) s) h.state
    by false [] h suits = chosen_is (ready_at_boot script) h.queues.queues
        ∙ (ap (λ (S : State). slot_actor S (ready_at_boot script) s) h.state
        ∙ chosen-same (boot_in false script) (record { shared = false; keep = false; reuse = uses_again script.version })
        (record { shared = true; keep = false; reuse = uses_again script.version }) (ready_at_boot script) s)
    by false (e ∷ es) h suits = absurd (suits refl)
