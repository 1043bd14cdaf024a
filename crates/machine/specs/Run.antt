-- The run of a script: each slot of its schedule makes one entry.
use Rattle.std.specs.Prelude.{ℕ, ◌+◌, List, [], ◌∷◌}
use Rattle.sym_base.specs.declared.number.ObjNo.{ObjNo}
use Rattle.script_types.specs.declared.script.Script.{Script}
use Rattle.script_types.specs.declared.script.Slot.{Slot}
use Rattle.script_types.specs.declared.script.Slot.TheVariants.{Go, Irq as IrqSlot, Tick as TickSlot}
use Rattle.entry_log.specs.declared.entry.Actor.{Actor}
use Rattle.entry_log.specs.declared.entry.Actor.TheVariants.{Irq, Tick}
use Rattle.entry_log.specs.declared.entry.Entry.{Entry}
use Rattle.machine.specs.declared.state.State.{State}
use Rattle.machine.specs.Choice.{chosen}
use Rattle.machine.specs.Arrived.{arrived_next}
use Rattle.machine.specs.Boot.{boot, ready_at_boot}
use Rattle.machine.specs.History.{next, entry_by}

-- whom a slot lets act
abbrev pub slot_actor : State → List ObjNo → Slot → Actor
slot_actor S qs Go = chosen S qs
slot_actor S qs (IrqSlot k) = Irq k
slot_actor S qs TickSlot = Tick

-- the entries of the slots, from a state with its ready list and a place on
abbrev pub run_from : Script → State → List ObjNo → ℕ → List Slot → List Entry
run_from script S qs place [] = []
run_from script S qs place (slot ∷ slots) =
    entry_by script S place (slot_actor S qs slot)
    ∷ run_from script (next script S (slot_actor S qs slot)) (arrived_next script S (slot_actor S qs slot) qs) (place + 1) slots

abbrev pub run : Script → List Entry
run script = run_from script (boot script) (ready_at_boot script) 1 script.slots
