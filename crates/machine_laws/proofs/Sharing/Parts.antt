-- Parts of shared runs, one entry longer: by the entry of the next slot, which is no return, or by a return.
use Rattle.std.proofs.Common.{◌≡◌, ℕ, zero, suc, ◌+◌, List, [], ◌∷◌, ◌++◌, length, drop, arith, refl, ap, sym, subst, ◌∙◌, Option, Some, None, Bool, true, false}
use Rattle.std.specs.Prelude.{◌&&◌, ◌||◌, not, if◌then◌else◌, is_none, is_some, option_map, slice_get}
use Rattle.sym_base.specs.declared.number.ObjNo.{ObjNo}
use Rattle.script_types.specs.declared.script.Script.{Script}
use Rattle.script_types.specs.declared.script.Slot.{Slot}
use Rattle.script_types.specs.declared.script.Slot.TheVariants as slot
use Rattle.script_types.specs.Shape.{IsShaped}
use Rattle.script_types.proofs.LimitLaws.{both}
use Rattle.entry_log.specs.declared.entry.Actor.{Actor}
use Rattle.entry_log.specs.declared.entry.Actor.TheVariants.{Thread, Irq, Idfc, Tick, Idle}
use Rattle.entry_log.specs.declared.entry.Entry.{Entry}
use Rattle.state_rows.specs.Deferred.{next_immediate}
use Rattle.state_rows.specs.Nano.{actor_of, in_place_of, item_or, wanted_holder}
use Rattle.state_rows.specs.declared.deferred.Item.{Item}
use Rattle.state_rows.specs.declared.thread.ThreadRow.{ThreadRow}
use Rattle.machine.specs.declared.state.State.{State}
use Rattle.machine.specs.Arrived.{arrived_by_entry, arrived_from, arrived_in}
use Rattle.machine.specs.Boot.{boot_in, ready_at_boot}
use Rattle.machine.specs.Choice.{chosen, chosen_thread, first_ready}
use Rattle.machine.specs.History.{after_from, after_in, next_by, transition, IsNext}
use Rattle.machine.specs.Interrupts.{immediate, interrupt}
use Rattle.machine.specs.Out.{is_returning, part_of}
use Rattle.machine.specs.Rows.{thread_of}
use Rattle.machine.specs.Run.{slot_actor}
use Rattle.machine.specs.SharedRun.{behind_first, is_return, slots_left, slots_taken, IsOfSlot, IsSharedPart, MayTakeSlot, TakesSlots}
use Rattle.machine.specs.Task.{is_able, is_ready, is_wait, is_waiting_row}
use Rattle.machine.specs.Transition.{act}
use Rattle.machine.specs.WellFormed.{AreRows, IsWellFormed}
use Rattle.move_laws.proofs.Readiness.FirstReady.{first_listed}
use Rattle.move_laws.proofs.Readiness.ReadyHolders.{place_able}
use Rattle.machine_laws.proofs.Fitting.Actions.{regular-action}
use Rattle.machine_laws.proofs.Sharing.Losses.{comes-next, keeps-immediate, keeps-interrupt}
use Rattle.machine_laws.proofs.Reached.Histories.{legal-push}
use Rattle.move_laws.proofs.Readiness.ReadyParts.{ready_parts}

-- only a thread returns, and only one that is between a find and its return
abbrev pub IsReturner : State → Actor → Type 0
IsReturner S (Thread t) = is_returning (part_of (thread_of S t)) ≡ true
IsReturner S _ = ⊥

act-returns : (script : Script) (S : State) (t : ObjNo) → IsShaped script → AreRows script S
    → is_return (act script S t).outcome.step ≡ true → is_returning (part_of (thread_of S t)) ≡ true
unfolding act
act-returns script S t shaped rows is = ((regular-action script S t shaped rows).1.returns is).0

no-return : (b : Bool) (n : ℕ) → n ≡ 0 → n ≡ (if b then 1 else 0) → b ≡ true → ⊥
no-return true n none same is = absurd (omega arith)
no-return false n none same is = absurd (cc)

pub returns-out : (script : Script) (S : State) (actor : Actor) → IsShaped script → AreRows script S
    → is_return (transition script S actor).outcome.step ≡ true → IsReturner S actor
returns-out script S (Thread t) shaped rows is = act-returns script S t shaped rows is
returns-out script S (Irq k) shaped rows is =
    no-return (is_return (interrupt script S k).outcome.step) _ (keeps-interrupt script S k shaped rows).stays
    (comes-next script S (Irq k) shaped rows) is
returns-out script S Idfc shaped rows is =
    no-return (is_return (immediate script S).outcome.step) _ (keeps-immediate script S shaped rows).stays
    (comes-next script S Idfc shaped rows) is
returns-out script S Tick shaped rows is = absurd (cc)
returns-out script S Idle shaped rows is = absurd (cc)

-- where callers share the kernel, who is able isn't out
back-of : (waits shared returns : Bool) → shared ≡ true → not (waits || (shared && returns)) ≡ true → returns ≡ false
back-of waits true true same e = by waits e
  where
    by : (w : Bool) → not (w || true) ≡ true → true ≡ false
    by true e = absurd (cc)
    by false e = absurd (cc)
back-of waits true false same e = refl
back-of waits false returns same e = absurd (cc)

pub able-back : (script : Script) (S : State) (t : ObjNo) → S.mode.shared ≡ true → is_able script S t ≡ true → is_returning (part_of (thread_of S t)) ≡ false
able-back script S t shared able =
    let ready = both (is_ready script S t) (is_none (wanted_holder S.synchronization.nano t)) able in
    by (thread_of S t) (ready_parts script S t ready.0).waits
  where
    by : (row : Option ThreadRow) → not (is_waiting_row S.mode.shared row) ≡ true → is_returning (part_of row) ≡ false
    by None still = refl
    by (Some row) still = back-of (is_wait row.waiting) S.mode.shared (is_returning row.part) shared still

-- whatever holds of each that may be chosen
pub of-chosen : (script : Script) (S : State) (qs : List ObjNo) (P : Actor → Type 0) → IsWellFormed script S qs → P Idfc
    → P Idle → ((u : ObjNo) → is_able script S u ≡ true → P (Thread u)) → P (chosen S qs)
of-chosen script S qs P formed item idle able = by (next_immediate S.synchronization.deferred)
  where
    thread : (found : Option ObjNo) → first_ready S qs ≡ found → P (actor_of (option_map (in_place_of S.synchronization.nano) found))
    thread None e = idle
    thread (Some t) e = able (in_place_of S.synchronization.nano t) (place_able script S t formed.rows (sym (formed.ready.exact t) ∙ first_listed S qs t e))

    by : (item : Option Item) → P (item_or item (chosen_thread S qs))
    by (Some call) = item
    by None = thread (first_ready S qs) refl

-- so the entry of a slot is no return
pub unless-returner : (script : Script) (S : State) (actor : Actor) → IsShaped script → AreRows script S
    → (IsReturner S actor → ⊥) → is_return (transition script S actor).outcome.step ≡ false
unless-returner script S actor shaped rows none = by (is_return (transition script S actor).outcome.step) refl
  where
    by : (b : Bool) → is_return (transition script S actor).outcome.step ≡ b → b ≡ false
    by true e = absurd (none (returns-out script S actor shaped rows e))
    by false e = refl

pub slot-stays : (script : Script) (S : State) (qs : List ObjNo) (s : Slot) → IsShaped script → S.mode.shared ≡ true
    → IsWellFormed script S qs → is_return (transition script S (slot_actor S qs s)).outcome.step ≡ false
slot-stays script S qs slot.Go shaped shared formed =
    unless-returner script S (chosen S qs) shaped formed.rows
    (of-chosen script S qs (λ (actor : Actor). IsReturner S actor → ⊥) formed (λ none. none) (λ none. none)
    (λ u able returns. let back = able-back script S u shared able in cc))
slot-stays script S qs (slot.Irq k) shaped shared formed = unless-returner script S (Irq k) shaped formed.rows (λ none. none)
slot-stays script S qs slot.Tick shaped shared formed = refl

-- the slots that entries leave
abbrev slots_behind : List Slot → List Entry → List Slot
slots_behind slots [] = slots
slots_behind slots (e ∷ es) = slots_behind (slots_left (is_return e.step) slots) es

drop-first : (n : ℕ) (slots : List Slot) → drop n (behind_first slots) ≡ drop (suc n) slots
drop-first zero [] = refl
drop-first (suc n) [] = refl
drop-first n (s ∷ slots) = refl

drop-behind : (n : ℕ) (slots : List Slot) → drop n (behind_first slots) ≡ drop (1 + n) slots
drop-behind n slots = let one : suc n ≡ 1 + n = omega arith in drop-first n slots ∙ ap (λ (k : ℕ). drop k slots) one

behind-drop : (slots : List Slot) (es : List Entry) → slots_behind slots es ≡ drop (slots_taken es) slots
behind-drop slots [] = refl
behind-drop slots (e ∷ es) = behind-drop (slots_left (is_return e.step) slots) es ∙ by (is_return e.step)
  where
    by : (b : Bool) → drop (slots_taken es) (slots_left b slots) ≡ drop ((if b then 0 else 1) + slots_taken es) slots
    by true = let none : slots_taken es ≡ 0 + slots_taken es = omega arith in ap (λ (k : ℕ). drop k slots) none
    by false = drop-behind (slots_taken es) slots

takes-push : (script : Script) (S : State) (qs : List ObjNo) (slots : List Slot) (es : List Entry) (e : Entry)
    → TakesSlots script S qs slots es
    → IsOfSlot (is_return e.step) (after_from script S es) (arrived_from script S qs es) (slots_behind slots es) e.actor
    → TakesSlots script S qs slots (es ++ e ∷ [])
takes-push script S qs slots [] e takes next = (next, tt)
takes-push script S qs slots (x ∷ xs) e takes next = (
  takes.0,
  takes-push script (next_by script S x) (arrived_by_entry script S x qs)
      (slots_left (is_return x.step) slots) xs e takes.1 next,
)

-- the first of these is the slot at that place
may-take : (S : State) (qs : List ObjNo) (slots : List Slot) (n : ℕ) (s : Slot) (actor : Actor)
    → slice_get slots n ≡ Some s → actor ≡ slot_actor S qs s → MayTakeSlot S qs (drop n slots) actor
may-take S qs [] n s actor at is = absurd (cc)
may-take S qs (x ∷ slots) zero s actor at is = let same : x ≡ s = cc in is ∙ ap (slot_actor S qs) (sym same)
may-take S qs (x ∷ slots) (suc n) s actor at is = may-take S qs slots n s actor at is

of-slot : (b : Bool) (S : State) (qs : List ObjNo) (slots : List Slot) (actor : Actor)
    → (b ≡ false → MayTakeSlot S qs slots actor) → IsOfSlot b S qs slots actor
of-slot true S qs slots actor takes = tt
of-slot false S qs slots actor takes = takes refl

-- the part before all
pub part-none : (script : Script) → IsSharedPart script []
part-none script = record { shared = tt; slots = tt }

-- a part goes on by the entry of the next slot, or by a return
pub part-push : (script : Script) (history : List Entry) (e : Entry) → IsSharedPart script history
    → (is_return e.step ≡ false → (s : Slot) × (slice_get script.slots (slots_taken history) ≡ Some s)
    × (e.actor ≡ slot_actor (after_in true script history) (arrived_in true script history) s))
    → IsNext script (after_in true script history) (length history + 1) e → IsSharedPart script (history ++ e ∷ [])
part-push script history e part takes next =
    let S = after_in true script history in
    let qs = arrived_in true script history in record {
      shared = legal-push true script history e part.shared next;
      slots = takes-push script (boot_in true script) (ready_at_boot script) script.slots history e part.slots
          (of-slot (is_return e.step) S qs (slots_behind script.slots history) e.actor (λ stays.
          let s = takes stays in
          subst (λ (slots : List Slot). MayTakeSlot S qs slots e.actor) (sym (behind-drop script.slots history))
          (may-take S qs script.slots (slots_taken history) s.0 e.actor s.1 s.2)));
    }

-- and takes one slot more by what is no return
pub taken-push : (history : List Entry) (e : Entry) → slots_taken (history ++ e ∷ []) ≡ slots_taken history + (if is_return e.step then 0 else 1)
taken-push [] e = omega arith
taken-push (x ∷ xs) e = let r = taken-push xs e in omega arith
