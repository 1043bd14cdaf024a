-- Idle may act exactly where the choice of the next actor is idle. That it may is said of the state alone, and the choice is
-- made by the ready list, which has exactly the threads that are ready.
use Rattle.std.proofs.Common.{◌≡◌, List, refl, ap, sym, ◌∙◌, Option, Some, None, Bool}
use Rattle.std.specs.Prelude.{◌&&◌, is_none, option_map}
use Rattle.sym_base.specs.declared.number.ObjNo.{ObjNo}
use Rattle.script_types.specs.declared.script.Script.{Script}
use Rattle.entry_log.specs.declared.entry.Actor.TheVariants.{Idle}
use Rattle.state_rows.specs.Deferred.{next_immediate}
use Rattle.state_rows.specs.Nano.{in_place_of, actor_of, item_or, wanted_holder}
use Rattle.state_rows.specs.declared.deferred.Item.{Item}
use Rattle.machine.specs.declared.state.State.{State}
use Rattle.machine.specs.Choice.{chosen, chosen_thread, first_ready}
use Rattle.machine.specs.History.{IsIdle}
use Rattle.machine.specs.WellFormed.{IsWellFormed}
use Rattle.move_laws.proofs.Readiness.FirstReady.{first_listed, none_listed}
use Rattle.move_laws.proofs.Readiness.ReadyHolders.{place_able}

-- where no item waits and no thread is ready, nobody could act
pub idle_of : (script : Script) (S : State) (qs : List ObjNo) → IsWellFormed script S qs
    → next_immediate S.synchronization.deferred ≡ None → first_ready S qs ≡ None → IsIdle script S
idle_of script S qs formed none first = record {
  none = none;
  nobody = λ t. ap (λ (ready : Bool). ready && is_none (wanted_holder S.synchronization.nano t)) (sym (formed.ready.exact t) ∙ none_listed S qs t first);
}

-- where nobody is chosen, nobody could act
pub chosen_idle : (script : Script) (S : State) (qs : List ObjNo) → IsWellFormed script S qs → chosen S qs ≡ Idle → IsIdle script S
chosen_idle script S qs formed idle = by (next_immediate S.synchronization.deferred) refl idle
  where
    thread : next_immediate S.synchronization.deferred ≡ None → (found : Option ObjNo) → first_ready S qs ≡ found
        → actor_of (option_map (in_place_of S.synchronization.nano) found) ≡ Idle → IsIdle script S
    thread none None first e = idle_of script S qs formed none first
    thread none (Some t) first e = absurd (cc)

    by : (item : Option Item) → next_immediate S.synchronization.deferred ≡ item → item_or item (chosen_thread S qs) ≡ Idle → IsIdle script S
    by (Some item) is e = absurd (cc)
    by None is e = thread is (first_ready S qs) refl e

-- and where nobody could act, nobody is chosen
pub idle_chosen : (script : Script) (S : State) (qs : List ObjNo) → IsWellFormed script S qs → IsIdle script S → chosen S qs ≡ Idle
idle_chosen script S qs formed idle = ap (λ (item : Option Item). item_or item (chosen_thread S qs)) idle.none ∙ by (first_ready S qs) refl
  where
    by : (found : Option ObjNo) → first_ready S qs ≡ found → actor_of (option_map (in_place_of S.synchronization.nano) found) ≡ Idle
    by None first = refl
    by (Some t) first =
        let able = place_able script S t formed.rows (sym (formed.ready.exact t) ∙ first_listed S qs t first) in
        let nobody = idle.nobody (in_place_of S.synchronization.nano t) in absurd (cc)
