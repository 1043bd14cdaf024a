-- A part of a run of the schedule, after a slot was drawn, and after a thread came back.
use Rattle.std.proofs.Common.{◌≡◌, ◌∙◌, sym, ap, subst, arith, ℕ, ◌+◌, ◌*◌, ◌≤◌, ◌<◌, List, [], ◌∷◌, ◌++◌, length, Bool, true, false, Option, Some, None}
use Rattle.std.proofs.lemmas.Option.{get_or_from_slice_get}
use Rattle.std.specs.Prelude.{if◌then◌else◌, slice_get}
use Rattle.sym_base.specs.declared.number.ObjNo.{ObjNo}
use Rattle.script_types.specs.Source.{IsWellFormed}
use Rattle.script_types.specs.declared.script.Script.{Script}
use Rattle.script_types.specs.declared.script.Slot.{Slot}
use Rattle.script_types.specs.declared.script.Slot.TheVariants.{Go}
use Rattle.entry_log.specs.declared.entry.Actor.{Actor}
use Rattle.entry_log.specs.declared.entry.Entry.{Entry}
use Rattle.machine.specs.Boot.{boot_in, ready_at_boot}
use Rattle.machine.specs.History.{IsShared}
use Rattle.machine.specs.SharedRun.{is_return, slots_taken, IsSharedPart}
use Rattle.machine.specs.Slots.{IsDeclared}
use Rattle.machine_laws.proofs.ValidSlots.{valid_slot_is_declared, valid_slots_few}
use Rattle.ref_words.specs.Words.{Words}
use Rattle.ref_words.specs.declared.slip.Slip.{Slip}
use Rattle.kcore.specs.KernelView.{KernelView}
use Rattle.kcore.specs.OneMore.{ReturnsBy, SendsOut}
use Rattle.shared_kernel.specs.declared.acted.Acted.{Acted}
use Rattle.shared_kernel.specs.declared.acted.Acted.TheVariants.{Entry as ActedEntry, Seek as ActedSeek}
use Rattle.shared_kernel.specs.declared.base.KernelBase.{KernelBase}
use Rattle.shared_kernel.specs.Acts.{Acts}
use Rattle.shared_kernel.specs.Does.{slot_after}
use Rattle.shared_kernel.specs.Values.{base_of, IsScheduled, IsShareable}
use Rattle.shared_kernel.proofs.Sent.{one-longer}
use Rattle.shared_kernel.proofs.Taking.{part-more, taken-few, taken-more}

-- the history is longer by one entry, and so many slots more are taken
pub record GoesOn (script : Script) (old new : List Entry) (slots : ℕ) : Type 0 where
  pub part : IsSharedPart script new
  pub taken : slots_taken new ≡ slots_taken old + slots
  pub longer : length new ≡ length old + 1

taken-as : (old new : List Entry) (e : Entry) (b : Bool) → new ≡ old ++ e ∷ [] → is_return e.step ≡ b → slots_taken new ≡ slots_taken old + (if b then 0 else 1)
taken-as old new e b longer is = taken-more old new e longer ∙ ap (λ (r : Bool). slots_taken old + (if r then 0 else 1)) is

sends-on : (script : Script) (old new : List Entry) (slot : Slot) (sent : Option Slip) → IsSharedPart script old
    → IsShared script new → slice_get script.slots (slots_taken old) ≡ Some slot
    → SendsOut script old new (slot_after script old slot) sent → GoesOn script old new 1
sends-on script old new slot sent part legal at made =
    let e = made.more.entry in
    let actor : e.actor ≡ slot_after script old slot = ap (λ (x : Entry). x.actor) made.more.told in
    record {
      part = part-more script old new e part legal made.more.longer (λ forth. (slot, at, actor));
      taken = taken-as old new e false made.more.longer made.forth;
      longer = one-longer old new e made.more.longer;
    }

-- the actor of the next slot acted
pub draw-on : (b : KernelBase) (old new : List Entry) (slot : Slot) (acted : Acted) → IsSharedPart b.script old
    → IsShared b.script new → slice_get b.script.slots (slots_taken old) ≡ Some slot
    → Acts b old new (slot_after b.script old slot) acted → GoesOn b.script old new 1
draw-on b old new slot (ActedEntry place) part legal at acts = sends-on b.script old new slot None part legal at acts.made
draw-on b old new slot (ActedSeek place thread ticket) part legal at acts = sends-on b.script old new slot (Some ticket.slip) part legal at acts.made

-- or a thread came back
pub back-on : (script : Script) (old new : List Entry) (t : ObjNo) → IsSharedPart script old → IsShared script new
    → ReturnsBy script old new t → GoesOn script old new 0
back-on script old new t part legal made =
    let e = made.more.entry in
    record {
      part = part-more script old new e part legal made.more.longer (λ forth. let back = made.back in absurd (cc));
      taken = taken-as old new e true made.more.longer made.back;
      longer = one-longer old new e made.more.longer;
    }

-- no more slots are taken than there are, which are few
pub few-taken : (script : Script) (history : List Entry) → IsWellFormed script → IsSharedPart script history
    → (slots_taken history ≤ length script.slots) × (length script.slots ≤ 65536)
few-taken script history valid part =
    let few = valid_slots_few script valid in
    (taken-few script (boot_in true script) (ready_at_boot script) script.slots history part.slots, omega arith)

-- the next slot of the schedule, which is declared
pub at-next : (slots all : List Slot) (n m : ℕ) (s : Slot) → slots ≡ all → n ≡ m → slice_get slots n ≡ Some s → slice_get all m ≡ Some s
at-next slots all n m s same count at = subst (λ (k : ℕ). slice_get all k ≡ Some s) count (subst (λ (l : List Slot). slice_get l n ≡ Some s) same at)

pub declared-next : (script : Script) (n : ℕ) (s : Slot) → IsWellFormed script → slice_get script.slots n ≡ Some s → IsDeclared script s
declared-next script n s valid at = subst (IsDeclared script) (get_or_from_slice_get script.slots n s Go at) (valid_slot_is_declared script n valid)

module _ (k : KernelView Words) (slots : List Slot) (taken : ℕ) (old : IsScheduled k slots taken) where
  -- there is room for its entry and a return
  pub room-next : taken < length slots → length k.history + length k.notes.out + 2 ≤ 131072
  room-next left =
      let few = valid_slots_few k.script old.shareable.valid in
      let same : length slots ≡ length k.script.slots = ap length old.slots in
      let two = old.two in omega arith

  -- their number has 32 bits, with one more
  pub taken-small : taken < 4294967295
  taken-small =
      let few = few-taken k.script k.history old.shareable.valid old.part in
      let least : slots_taken k.history ≤ length k.script.slots = few.0 in
      let most : length k.script.slots ≤ 65536 = few.1 in
      let is = old.taken in omega arith

  -- no slot is left
  pub none-next : length slots ≤ taken → slots_taken k.history ≡ length k.script.slots
  none-next none =
      let few = few-taken k.script k.history old.shareable.valid old.part in
      let least : slots_taken k.history ≤ length k.script.slots = few.0 in
      let same : length slots ≡ length k.script.slots = ap length old.slots in
      let is = old.taken in omega arith

  -- a kernel that its schedule drives, after a draw and after a return
  module _ (l : KernelView Words) (shareable : IsShareable l) (base : base_of l ≡ base_of k) (legal : IsShared l.script l.history) where
    same-script : l.script ≡ k.script
    same-script = ap (λ (b : KernelBase). b.script) base

    goes-on : (n : ℕ) → GoesOn k.script k.history l.history n → length l.notes.out + 1 ≤ length k.notes.out + 2 * n → IsScheduled l slots (taken + n)
    goes-on n on out = record {
      shareable = shareable;
      part = subst (λ (s : Script). IsSharedPart s l.history) (sym same-script) on.part;
      slots = old.slots ∙ ap (λ (s : Script). s.slots) (sym same-script);
      taken = (let is = old.taken in let more = on.taken in omega arith);
      two = (let two = old.two in let longer = on.longer in omega arith);
    }

    pub scheduled-draw : (slot : Slot) (acted : Acted) → slice_get slots taken ≡ Some slot
        → Acts (base_of k) k.history l.history (slot_after k.script k.history slot) acted → length l.notes.out
        ≤ length k.notes.out + 1 → IsScheduled l slots (taken + 1)
    scheduled-draw slot acted at acts out =
        goes-on 1 (draw-on (base_of k) k.history l.history slot acted old.part
        (subst (λ (s : Script). IsShared s l.history) same-script legal)
        (at-next slots k.script.slots taken (slots_taken k.history) slot old.slots old.taken at) acts) (omega arith)

    pub scheduled-back : (t : ObjNo) → ReturnsBy k.script k.history l.history t → length l.notes.out + 1 ≡ length k.notes.out → IsScheduled l slots taken
    scheduled-back t made fewer =
        let same : taken + 0 ≡ taken = omega arith in
        subst (IsScheduled l slots) same (goes-on 0
        (back-on k.script k.history l.history t old.part
        (subst (λ (s : Script). IsShared s l.history) same-script legal) made) (omega arith))
