-- The runs of a script's schedule by callers who share the kernel: any caller takes the next slot, and whoever found an object comes back at
-- any later place.
use Rattle.std.specs.Prelude.{◌≡◌, ℕ, ◌+◌, Bool, true, false, if◌then◌else◌, List, [], ◌∷◌, length, Some}
use Rattle.sym_base.specs.declared.number.ObjNo.{ObjNo}
use Rattle.script_types.specs.declared.script.Script.{Script}
use Rattle.script_types.specs.declared.script.Slot.{Slot}
use Rattle.entry_log.specs.declared.entry.Actor.{Actor}
use Rattle.entry_log.specs.declared.entry.Entry.{Entry}
use Rattle.entry_log.specs.declared.step.Part.TheVariants.{Return}
use Rattle.entry_log.specs.declared.step.Step.{Step}
use Rattle.entry_log.specs.declared.step.Step.TheVariants.{Of}
use Rattle.machine.specs.declared.state.State.{State}
use Rattle.machine.specs.Arrived.{arrived_by_entry}
use Rattle.machine.specs.Boot.{boot_in, ready_at_boot}
use Rattle.machine.specs.History.{IsShared, after_in, next_by}
use Rattle.machine.specs.Out.{is_out}
use Rattle.machine.specs.Run.{slot_actor}

-- whether a step is a return, which takes no slot
abbrev pub is_return : Step → Bool
is_return (Of word Return) = true
is_return _ = false

-- how many entries take a slot
abbrev pub slots_taken : List Entry → ℕ
slots_taken [] = 0
slots_taken (e ∷ es) = (if is_return e.step then 0 else 1) + slots_taken es

-- an entry that takes the next slot is made by whom that lets act
abbrev pub MayTakeSlot : State → List ObjNo → List Slot → Actor → Type 0
MayTakeSlot S qs [] actor = ⊥
MayTakeSlot S qs (slot ∷ slots) actor = actor ≡ slot_actor S qs slot

abbrev pub IsOfSlot : Bool → State → List ObjNo → List Slot → Actor → Type 0
IsOfSlot true S qs slots actor = Unit {0}
IsOfSlot false S qs slots actor = MayTakeSlot S qs slots actor

-- the slots that an entry leaves
abbrev pub behind_first : List Slot → List Slot
behind_first [] = []
behind_first (slot ∷ slots) = slots

abbrev pub slots_left : Bool → List Slot → List Slot
slots_left true slots = slots
slots_left false slots = behind_first slots

-- the entries that aren't returns take these slots in order, as far as they go, from a state with its ready list on
abbrev pub TakesSlots : Script → State → List ObjNo → List Slot → List Entry → Type 0
TakesSlots script S qs slots [] = Unit {0}
TakesSlots script S qs slots (e ∷ es) =
    IsOfSlot (is_return e.step) S qs slots e.actor
    × TakesSlots script (next_by script S e) (arrived_by_entry script S e qs) (slots_left (is_return e.step) slots) es

-- a part of a shared run of the script's schedule
pub record IsSharedPart (script : Script) (history : List Entry) : Type 0 where
  pub shared : IsShared script history
  pub slots : TakesSlots script (boot_in true script) (ready_at_boot script) script.slots history

-- a whole one: each slot is taken, and everybody is back
pub record IsSharedRun (script : Script) (history : List Entry) : Type 0 where
  pub part : IsSharedPart script history
  pub all : slots_taken history ≡ length script.slots
  pub back : (t : ObjNo) → is_out (after_in true script history) t ≡ false
