-- What callers are told of what they asked for.
use Rattle.std.proofs.Common.{◌≡◌, ◌∙◌, sym, ap, refl, ℕ, List, [], ◌∷◌, ◌++◌, Bool, true, false, Option, Some, None}
use Rattle.std.specs.Prelude.{IsTrue, option_map, slice_get}
use Rattle.sym_base.specs.declared.number.ObjNo.{ObjNo}
use Rattle.script_types.specs.declared.script.Script.{Script}
use Rattle.script_types.specs.declared.script.Slot.{Slot}
use Rattle.script_types.specs.declared.script.Slot.TheVariants.{Go, Irq, Tick}
use Rattle.entry_log.specs.declared.entry.Actor.{Actor}
use Rattle.entry_log.specs.declared.entry.Actor.TheVariants.{Thread}
use Rattle.entry_log.specs.declared.entry.Entry.{Entry}
use Rattle.machine.specs.Arrived.{arrived_in}
use Rattle.machine.specs.History.{after_in}
use Rattle.machine.specs.Run.{slot_actor}
use Rattle.machine.specs.SharedRun.{slots_taken}
use Rattle.machine.specs.Slots.{declares_interrupt, IsDeclared}
use Rattle.turn_lock.specs.Log.{Begins}
use Rattle.shared_kernel.specs.declared.acted.Acted.{Acted}
use Rattle.shared_kernel.specs.declared.acted.Acted.TheVariants.{Entry as ActedEntry, Seek as ActedSeek}
use Rattle.shared_kernel.specs.declared.base.KernelBase.{KernelBase}
use Rattle.shared_kernel.specs.Acts.{did_of, drew_of, Acts}
use Rattle.shared_kernel.specs.Does.{slot_after, undeclared, undeclared_by, DoesAct, DoesSlot, MayAct, MaySlot}
use Rattle.shared_kernel.specs.Draws.{Draws}

-- an action adds to the history
pub acts-grown : (b : KernelBase) (old new : List Entry) (actor : Actor) (acted : Acted) → Acts b old new actor acted → Begins old new
acts-grown b old new actor (ActedEntry place) acts = record { rest = acts.made.more.entry ∷ []; is = sym acts.made.more.longer }
acts-grown b old new actor (ActedSeek place thread ticket) acts = record { rest = acts.made.more.entry ∷ []; is = sym acts.made.more.longer }

-- it is what a slot does, what a thread does, and what the next slot does
pub does-slot : (b : KernelBase) (old new : List Entry) (slot : Slot) (acted : Acted) → MaySlot b.script old slot
    → Acts b old new (slot_after b.script old slot) acted → DoesSlot b slot (did_of acted) old new
does-slot b old new slot (ActedEntry place) may acts = (may, acts)
does-slot b old new slot (ActedSeek place thread ticket) may acts = (may, acts)

pub does-act : (b : KernelBase) (old new : List Entry) (t : ObjNo) (acted : Acted) → MayAct b.script old t
    → Acts b old new (Thread t) acted → DoesAct b t (did_of acted) old new
does-act b old new t (ActedEntry place) may acts = (may, acts)
does-act b old new t (ActedSeek place thread ticket) may acts = (may, acts)

pub draws-next : (b : KernelBase) (old new : List Entry) (slot : Slot) (acted : Acted)
    → slice_get b.script.slots (slots_taken old) ≡ Some slot → Acts b old new (slot_after b.script old slot) acted
    → Draws b (drew_of acted) old new
draws-next b old new slot (ActedEntry place) at acts = (
  slot_after b.script old slot,
  ap (option_map
      (slot_actor (after_in true b.script old) (arrived_in true b.script old))) at,
  acts,
)
draws-next b old new slot (ActedSeek place thread ticket) at acts = (
  slot_after b.script old slot,
  ap (option_map
      (slot_actor (after_in true b.script old) (arrived_in true b.script old))) at,
  acts,
)

-- an interrupt that isn't declared, and one that is
pub undeclared-some : (script : Script) (slot : Slot) (k : ℕ) → Some k ≡ undeclared script slot → (slot ≡ Irq k) × (declares_interrupt script k ≡ false)
undeclared-some script Go k is = absurd (cc)
undeclared-some script Tick k is = absurd (cc)
undeclared-some script (Irq n) k is = by (declares_interrupt script n) refl is
  where
    by : (b : Bool) → declares_interrupt script n ≡ b → Some k ≡ undeclared_by b n → (Irq n ≡ Irq k) × (declares_interrupt script k ≡ false)
    by true e is = absurd (cc)
    by false e is =
        let same : n ≡ k = cc in
        (ap Irq same, ap (declares_interrupt script) (sym same) ∙ e)

pub undeclared-none : (script : Script) (slot : Slot) → None ≡ undeclared script slot → IsDeclared script slot
undeclared-none script Go is = tt
undeclared-none script Tick is = tt
undeclared-none script (Irq n) is = by (declares_interrupt script n) refl is
  where
    by : (b : Bool) → declares_interrupt script n ≡ b → None ≡ undeclared_by b n → declares_interrupt script n ≡ true
    by true e is = e
    by false e is = absurd (cc)

-- whether it is declared, by what the kernel answers
pub undeclared-at : (script : Script) (slot : Slot) (k : ℕ) (b : Bool) → slot ≡ Irq k → b ≡ declares_interrupt script k
    → undeclared_by b k ≡ undeclared script slot
undeclared-at script slot k b is says = ap (λ (d : Bool). undeclared_by d k) says ∙ ap (undeclared script) (sym is)

pub undeclared-other : (script : Script) (slot : Slot) → ((k : ℕ) → slot ≡ Irq k → ⊥) → None ≡ undeclared script slot
undeclared-other script Go other = refl
undeclared-other script Tick other = refl
undeclared-other script (Irq k) other = absurd (other k refl)
