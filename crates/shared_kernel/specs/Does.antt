-- What an action does that a caller asks for, by what it is answered.
use Rattle.std.specs.Prelude.{◌≡◌, ◌<◌, ◌≤◌, ◌+◌, ℕ, Bool, true, false, List, length, Option, Some, None}
use Rattle.sym_base.specs.declared.number.ObjNo.{ObjNo}
use Rattle.script_types.specs.declared.script.Script.{Script}
use Rattle.script_types.specs.declared.script.Slot.{Slot}
use Rattle.script_types.specs.declared.script.Slot.TheVariants.{Irq}
use Rattle.entry_log.specs.declared.entry.Actor.{Actor}
use Rattle.entry_log.specs.declared.entry.Actor.TheVariants.{Thread}
use Rattle.entry_log.specs.declared.entry.Entry.{Entry}
use Rattle.machine.specs.Arrived.{arrived_in}
use Rattle.machine.specs.History.{after_in}
use Rattle.machine.specs.Run.{slot_actor}
use Rattle.machine.specs.Slots.{declares_interrupt, IsDeclared}
use Rattle.machine.specs.Task.{is_able}
use Rattle.machine_safe.specs.FindsAndReturns.{away}
use Rattle.turn_lock.specs.declared.view.Sight.{Sight}
use Rattle.shared_kernel.specs.declared.answers.Did.{Did}
use Rattle.shared_kernel.specs.declared.answers.Did.TheVariants as did
use Rattle.shared_kernel.specs.declared.base.KernelBase.{KernelBase}
use Rattle.shared_kernel.specs.Acts.{MakesEntry, MakesFind, Refuses}
use Rattle.shared_kernel.specs.Turned.{Turned}

-- the entries after a history, the returns of those who are out, and two more
abbrev pub claimed : Script → List Entry → ℕ
claimed script history = length history + away (after_in true script history) + 2

-- there is no room for them
pub record IsFull (script : Script) (old new : List Entry) (entries out : ℕ) : Type 0 where
  pub same : new ≡ old
  pub made : entries ≡ length old
  pub back : out ≡ away (after_in true script old)
  pub many : 131072 < claimed script old

-- whom a slot lets act after a history
abbrev pub slot_after : Script → List Entry → Slot → Actor
slot_after script history slot = slot_actor (after_in true script history) (arrived_in true script history) slot

-- the number of a slot's interrupt that the script doesn't declare
abbrev pub undeclared_by : Bool → ℕ → Option ℕ
undeclared_by true k = None
undeclared_by false k = Some k

abbrev pub undeclared : Script → Slot → Option ℕ
undeclared script (Irq k) = undeclared_by (declares_interrupt script k) k
undeclared script _ = None

-- a slot acts where it is declared and there is room
pub record MaySlot (script : Script) (old : List Entry) (slot : Slot) : Type 0 where
  pub declared : IsDeclared script slot
  pub room : claimed script old ≤ 131072

abbrev pub DoesSlot : KernelBase → Slot → Did → List Entry → List Entry → Type 0
DoesSlot b slot (did.Entry place) old new = MaySlot b.script old slot × MakesEntry b old new (slot_after b.script old slot) place
DoesSlot b slot (did.Seek place thread ticket) old new = MaySlot b.script old slot × MakesFind b old new (slot_after b.script old slot) place thread ticket
DoesSlot b slot (did.NotAble place) old new = ⊥
DoesSlot b slot (did.NoInterrupt k) old new = (slot ≡ Irq k) × (declares_interrupt b.script k ≡ false) × (new ≡ old)
DoesSlot b slot (did.Full entries out) old new = IsDeclared b.script slot × IsFull b.script old new entries out

-- a thread acts where there is room and it is able
pub record MayAct (script : Script) (old : List Entry) (t : ObjNo) : Type 0 where
  pub room : claimed script old ≤ 131072
  pub able : is_able script (after_in true script old) t ≡ true

pub record IsUnable (script : Script) (old new : List Entry) (t : ObjNo) (place : ℕ) : Type 0 where
  pub refuses : Refuses old new place
  pub room : claimed script old ≤ 131072
  pub unable : is_able script (after_in true script old) t ≡ false

abbrev pub DoesAct : KernelBase → ObjNo → Did → List Entry → List Entry → Type 0
DoesAct b t (did.Entry place) old new = MayAct b.script old t × MakesEntry b old new (Thread t) place
DoesAct b t (did.Seek place thread ticket) old new = MayAct b.script old t × MakesFind b old new (Thread t) place thread ticket
DoesAct b t (did.NotAble place) old new = IsUnable b.script old new t place
DoesAct b t (did.NoInterrupt k) old new = ⊥
DoesAct b t (did.Full entries out) old new = IsFull b.script old new entries out

-- what a caller sees who asked for a slot, and who asked for a thread
abbrev pub SlottedBy : KernelBase → Sight KernelBase → Sight KernelBase → Slot → Did → Type 0
SlottedBy b old new slot result = Turned old new (DoesSlot b slot result)

abbrev pub ActedBy : KernelBase → Sight KernelBase → Sight KernelBase → ObjNo → Did → Type 0
ActedBy b old new t result = Turned old new (DoesAct b t result)
