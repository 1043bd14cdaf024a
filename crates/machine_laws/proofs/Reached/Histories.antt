-- Histories, one entry longer.
use Rattle.state_rows.specs.Deferred.{next_immediate}
use Rattle.state_rows.specs.Nano.{in_place_of, actor_of, item_or}
use Rattle.state_rows.specs.declared.deferred.Item.{Item}
use Rattle.std.proofs.Common.{◌≡◌, ℕ, ◌+◌, List, [], ◌∷◌, ◌++◌, length, arith, refl, subst, ap, sym, ◌∙◌, Option, Some, None, Bool, true}
use Rattle.std.specs.Prelude.{IsTrue, is_some, option_map, ◌||◌}
use Rattle.sym_base.specs.declared.number.ObjNo.{ObjNo}
use Rattle.script_types.specs.declared.script.Script.{Script}
use Rattle.script_types.specs.declared.script.Slot.{Slot}
use Rattle.script_types.specs.declared.script.Slot.TheVariants.{Go, Irq, Tick}
use Rattle.entry_log.specs.declared.entry.Entry.{Entry}
use Rattle.machine.specs.declared.state.State.{State}
use Rattle.machine.specs.Arrived.{arrived_by_entry, arrived_from, arrived_in}
use Rattle.machine.specs.Boot.{boot_in, ready_at_boot}
use Rattle.machine.specs.Choice.{chosen, chosen_thread, first_ready}
use Rattle.machine.specs.Out.{is_out}
use Rattle.machine.specs.History.{after_from, after_in, next_by, CanAct, IsNext, IsLegalFrom, IsLegalIn}
use Rattle.machine.specs.Run.{slot_actor}
use Rattle.machine.specs.Slots.{IsDeclared}
use Rattle.machine.specs.WellFormed.{IsWellFormed}
use Rattle.move_laws.proofs.Readiness.FirstReady.{first_listed}
use Rattle.move_laws.proofs.Readiness.ReadyHolders.{place_able}
use Rattle.machine_laws.proofs.Reached.Idleness.{idle_of}

-- the state after one more entry
pub after_from-push : (script : Script) (S : State) (es : List Entry) (e : Entry)
    → after_from script S (es ++ e ∷ []) ≡ next_by script (after_from script S es) e
after_from-push script S [] e = refl
after_from-push script S (x ∷ xs) e = after_from-push script (next_by script S x) xs e

pub after-push : (shared : Bool) (script : Script) (history : List Entry) (e : Entry)
    → after_in shared script (history ++ e ∷ []) ≡ next_by script (after_in shared script history) e
after-push shared script history e = after_from-push script (boot_in shared script) history e

-- and its ready list
pub arrived_from-push : (script : Script) (S : State) (qs : List ObjNo) (es : List Entry) (e : Entry)
    → arrived_from script S qs (es ++ e ∷ [])
    ≡ arrived_by_entry script (after_from script S es) e (arrived_from script S qs es)
arrived_from-push script S qs [] e = refl
arrived_from-push script S qs (x ∷ xs) e = arrived_from-push script (next_by script S x) (arrived_by_entry script S x qs) xs e

pub arrived-push : (shared : Bool) (script : Script) (history : List Entry) (e : Entry)
    → arrived_in shared script (history ++ e ∷ [])
    ≡ arrived_by_entry script (after_in shared script history) e (arrived_in shared script history)
arrived-push shared script history e = arrived_from-push script (boot_in shared script) (ready_at_boot script) history e

-- a legal history goes on by one entry that may stand there
legal_from-push : (script : Script) (S : State) (place : ℕ) (es : List Entry) (e : Entry)
    → IsLegalFrom script S place es → IsNext script (after_from script S es) (place + length es) e
    → IsLegalFrom script S place (es ++ e ∷ [])
legal_from-push script S place [] e h n = (subst (λ (p : ℕ). IsNext script S p e) (omega arith) n, tt)
legal_from-push script S place (x ∷ xs) e h n = (
  h.0,
  legal_from-push script (next_by script S x) (place + 1) xs e h.1
      (subst (λ (p : ℕ). IsNext script (after_from script (next_by script S x) xs) p e) (omega arith) n),
)

pub legal-push : (shared : Bool) (script : Script) (history : List Entry) (e : Entry) → IsLegalIn shared script history
    → IsNext script (after_in shared script history) (length history + 1) e
    → IsLegalIn shared script (history ++ e ∷ [])
legal-push shared script history e h n =
    legal_from-push script (boot_in shared script) 1 history e h
    (subst (λ (p : ℕ). IsNext script (after_in shared script history) p e) (omega arith) n)

true-is : {b : Bool} → b ≡ true → IsTrue b
true-is h = h

-- the chosen actor may act
pub can_act_chosen : (script : Script) (S : State) (qs : List ObjNo) → IsWellFormed script S qs → CanAct script S (chosen S qs)
can_act_chosen script S qs formed = by (next_immediate S.synchronization.deferred) refl
  where
    thread : next_immediate S.synchronization.deferred ≡ None → (found : Option ObjNo) → first_ready S qs ≡ found
        → CanAct script S (actor_of (option_map (in_place_of S.synchronization.nano) found))
    thread none None e = idle_of script S qs formed none e
    thread none (Some t) e = let u = in_place_of S.synchronization.nano t in
        true-is (ap (λ (b : Bool). b || is_out S u)
        (place_able script S t formed.rows (sym (formed.ready.exact t) ∙ first_listed S qs t e)))

    by : (item : Option Item) → next_immediate S.synchronization.deferred ≡ item → CanAct script S (item_or item (chosen_thread S qs))
    by (Some item) e = true-is (ap is_some e)
    by None e = thread e (first_ready S qs) refl

-- so may that of a slot
pub slot_can : (script : Script) (S : State) (qs : List ObjNo) (slot : Slot) → IsDeclared script slot
    → IsWellFormed script S qs → CanAct script S (slot_actor S qs slot)
slot_can script S qs Go declared formed = can_act_chosen script S qs formed
slot_can script S qs (Irq k) declared formed = declared
slot_can script S qs Tick declared formed = tt
