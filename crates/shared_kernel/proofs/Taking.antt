-- A part of a run of the schedule that is longer by one entry: of the next slot, or a return.
use Rattle.std.proofs.Common.{◌≡◌, ◌∙◌, sym, ap, subst, arith, ℕ, ◌+◌, ◌≤◌, List, [], ◌∷◌, ◌++◌, length, Bool, true, false, Some}
use Rattle.std.specs.Prelude.{if◌then◌else◌, slice_get}
use Rattle.sym_base.specs.declared.number.ObjNo.{ObjNo}
use Rattle.script_types.specs.declared.script.Script.{Script}
use Rattle.script_types.specs.declared.script.Slot.{Slot}
use Rattle.entry_log.specs.declared.entry.Actor.{Actor}
use Rattle.entry_log.specs.declared.entry.Entry.{Entry}
use Rattle.machine.specs.declared.state.State.{State}
use Rattle.machine.specs.Arrived.{arrived_by_entry, arrived_in}
use Rattle.machine.specs.Boot.{boot_in}
use Rattle.machine.specs.History.{after_from, after_in, next_by, IsLegalFrom, IsNext, IsShared}
use Rattle.machine.specs.Run.{slot_actor}
use Rattle.machine.specs.SharedRun.{is_return, slots_left, slots_taken, IsOfSlot, IsSharedPart, TakesSlots}
use Rattle.machine_laws.proofs.Sharing.Parts.{part-push, taken-push}

-- the last entry of a legal history may stand there
legal-last : (script : Script) (S : State) (place : ℕ) (es : List Entry) (e : Entry)
    → IsLegalFrom script S place (es ++ e ∷ []) → IsNext script (after_from script S es) (place + length es) e
legal-last script S place [] e legal = let same : place ≡ place + 0 = omega arith in subst (λ (n : ℕ). IsNext script S n e) same legal.0
legal-last script S place (x ∷ es) e legal =
    let same : (place + 1) + length es ≡ place + length (x ∷ es) = omega arith in
    subst (λ (n : ℕ). IsNext script (after_from script (next_by script S x) es) n e) same (legal-last script (next_by script S x) (place + 1) es e legal.1)

-- one entry more
pub part-more : (script : Script) (old new : List Entry) (e : Entry) → IsSharedPart script old → IsShared script new → new ≡ old ++ e ∷ []
    → (is_return e.step ≡ false → (s : Slot) × (slice_get script.slots (slots_taken old) ≡ Some s)
    × (e.actor ≡ slot_actor (after_in true script old) (arrived_in true script old) s)) → IsSharedPart script new
part-more script old new e part shared longer takes =
    let same : 1 + length old ≡ length old + 1 = omega arith in
    let legal : IsShared script (old ++ e ∷ []) = subst (λ (l : List Entry). IsShared script l) longer shared in
    let last : IsNext script (after_in true script old) (length old + 1) e =
    subst (λ (n : ℕ). IsNext script (after_in true script old) n e) same
    (legal-last script (boot_in true script) 1 old e legal) in
    subst (λ (l : List Entry). IsSharedPart script l) (sym longer) (part-push script old e part takes last)

-- which takes one slot more, unless it is a return
pub taken-more : (old new : List Entry) (e : Entry) → new ≡ old ++ e ∷ [] → slots_taken new ≡ slots_taken old + (if is_return e.step then 0 else 1)
taken-more old new e longer = ap slots_taken longer ∙ taken-push old e

-- no more slots are taken than there are
taken-here : (b : Bool) (S : State) (qs : List ObjNo) (slots : List Slot) (actor : Actor) (n : ℕ)
    → IsOfSlot b S qs slots actor → n ≤ length (slots_left b slots) → (if b then 0 else 1) + n ≤ length slots
taken-here true S qs slots actor n its few = omega arith
taken-here false S qs [] actor n its few = absurd its
taken-here false S qs (s ∷ slots) actor n its few = omega arith

pub taken-few : (script : Script) (S : State) (qs : List ObjNo) (slots : List Slot) (es : List Entry)
    → TakesSlots script S qs slots es → slots_taken es ≤ length slots
taken-few script S qs slots [] takes = omega arith
taken-few script S qs slots (e ∷ es) takes =
    taken-here (is_return e.step) S qs slots e.actor (slots_taken es) takes.0
    (taken-few script (next_by script S e) (arrived_by_entry script S e qs)
    (slots_left (is_return e.step) slots) es takes.1)
