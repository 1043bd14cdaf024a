-- What an actor's action does.
use Rattle.std.proofs.Common.{◌≡◌, ℕ, refl, List, Option, Some, None, Bool, true, false}
use Rattle.std.specs.Prelude.{is_some, if◌then◌else◌}
use Rattle.sym_base.specs.declared.number.ObjNo.{ObjNo}
use Rattle.script_types.specs.declared.script.Script.{Script}
use Rattle.script_types.specs.Shape.{IsShaped}
use Rattle.entry_log.specs.declared.entry.Actor.{Actor}
use Rattle.entry_log.specs.declared.entry.Actor.TheVariants.{Thread, Irq, Idfc, Tick, Idle}
use Rattle.state_rows.specs.declared.nano.NanoRows.{NanoRows}
use Rattle.state_rows.specs.Nano.{held_by, turned}
use Rattle.state_rows.specs.Deferred.{next_immediate}
use Rattle.machine.specs.declared.moves.Move.{Move}
use Rattle.machine.specs.declared.plan.Body.TheVariants.{Interrupt}
use Rattle.machine.specs.declared.plan.Plan.{Plan}
use Rattle.machine.specs.declared.plan.Plan.TheVariants.{Runs}
use Rattle.machine.specs.declared.state.State.{State}
use Rattle.machine.specs.Arrivals.{ready_after}
use Rattle.machine.specs.Arrived.{arrived_by, arrived_next}
use Rattle.machine.specs.Choice.{first_ready}
use Rattle.machine.specs.History.{transition, next}
use Rattle.machine.specs.Moves.{perform}
use Rattle.machine.specs.Steps.{decision_of}
use Rattle.machine.specs.Tick.{after_tick}
use Rattle.machine.specs.Transition.{act}
use Rattle.machine.specs.Bodies.{decision_by}
use Rattle.machine.specs.Interrupts.{done_by, immediate, immediate_plan, interrupt, supervisor}
use Rattle.machine.specs.WellFormed.{AreRows, IsReadyList, IsWellFormed}
use Rattle.machine_laws.proofs.Fitting.Actions.{of_action, sound-action}
use Rattle.machine_laws.proofs.Fitting.Bodies.{Goes}
use Rattle.machine_laws.proofs.Fitting.Interrupts.{goes-immediate, goes-interrupt, sane-supervisor}
use Rattle.move_laws.proofs.MoveLaws.Run.{each-sound}
use Rattle.move_laws.proofs.MoveLaws.Sound.{Sound, sound-none}
use Rattle.move_laws.proofs.Readiness.ReadyActions.{ready-moves, ready-pay, ready-none, ready-behind}
use Rattle.move_laws.proofs.Readiness.FirstReady.{first_listed}

sound-act : (script : Script) (S : State) (t : ObjNo) → IsShaped script → AreRows script S
    → Sound script S (act script S t).state (act script S t).outcome.effects
unfolding act
sound-act script S t shaped rows = sound-action script S t shaped rows

-- what is done without a thread
sound-done : (script : Script) (S : State) (plan : Plan) → AreRows script S
    → Goes script supervisor S (decision_by script supervisor S plan).moves
    → Sound script S (done_by script S plan).state (done_by script S plan).outcome.effects
sound-done script S plan rows goes =
    each-sound script S supervisor (decision_by script supervisor S plan).moves goes.each goes.few
    (sane-supervisor script S rows)

sound-interrupt : (script : Script) (S : State) (k : ℕ) → IsShaped script → AreRows script S
    → Sound script S (interrupt script S k).state (interrupt script S k).outcome.effects
unfolding interrupt
sound-interrupt script S k shaped rows = sound-done script S (Runs (Interrupt k)) rows (goes-interrupt script S k shaped rows)

sound-immediate : (script : Script) (S : State) → IsShaped script → AreRows script S
    → Sound script S (immediate script S).state (immediate script S).outcome.effects
unfolding immediate
sound-immediate script S shaped rows =
    let found = next_immediate S.synchronization.deferred in
    sound-done script S (immediate_plan script S found) rows (goes-immediate script S found shaped rows refl)

-- what an actor does to references, lives and rows
pub sound-next : (script : Script) (S : State) (actor : Actor) → IsShaped script → AreRows script S
    → Sound script S (next script S actor) (transition script S actor).outcome.effects
sound-next script S (Thread t) shaped rows = sound-act script S t shaped rows
sound-next script S (Irq k) shaped rows = sound-interrupt script S k shaped rows
sound-next script S Idfc shaped rows = sound-immediate script S shaped rows
sound-next script S Tick shaped rows = sound-none script S rows
sound-next script S Idle shaped rows = sound-none script S rows

-- an actor's action leaves the list exact: a thread's
ready-act : (script : Script) (S : State) (t : ObjNo) (qs : List ObjNo) → IsShaped script → AreRows script S
    → IsReadyList script S qs
    → IsReadyList script (act script S t).state (ready_after script t (decision_of script S t).moves S qs)
unfolding act
ready-act script S t qs shaped rows h =
    of_action script S t (λ (ms : List Move). IsReadyList script (perform t ms S) (ready_after script t ms S qs)) shaped
    rows
    (λ ms sane goes. ready-moves script S t ms qs goes.each goes.few sane h)
    (λ what rest sane owes. ready-pay script S t what qs rows.references.threads h) (ready-none script S t qs h)

-- and so does what is done without a thread
ready-by : (script : Script) (S : State) (plan : Plan) (qs : List ObjNo) → AreRows script S
    → Goes script supervisor S (decision_by script supervisor S plan).moves → IsReadyList script S qs
    → IsReadyList script (done_by script S plan).state (arrived_by script S plan qs)
ready-by script S plan qs rows goes h =
    ready-moves script S supervisor (decision_by script supervisor S plan).moves qs goes.each goes.few
    (sane-supervisor script S rows) h

ready-interrupt : (script : Script) (S : State) (k : ℕ) (qs : List ObjNo) → IsShaped script → AreRows script S
    → IsReadyList script S qs
    → IsReadyList script (interrupt script S k).state (arrived_by script S (Runs (Interrupt k)) qs)
unfolding interrupt
ready-interrupt script S k qs shaped rows h = ready-by script S (Runs (Interrupt k)) qs rows (goes-interrupt script S k shaped rows) h

ready-immediate : (script : Script) (S : State) (qs : List ObjNo) → IsShaped script → AreRows script S
    → IsReadyList script S qs
    → IsReadyList script (immediate script S).state
    (arrived_by script S (immediate_plan script S (next_immediate S.synchronization.deferred)) qs)
unfolding immediate
ready-immediate script S qs shaped rows h =
    let found = next_immediate S.synchronization.deferred in
    ready-by script S (immediate_plan script S found) qs rows (goes-immediate script S found shaped rows refl) h

turned_is : (r : NanoRows) (found : Option ObjNo) (t : ObjNo) → turned r found ≡ Some t → found ≡ Some t
turned_is r None t e = absurd (cc)
turned_is r (Some u) t e = by (is_some (held_by r u)) e
  where
    by : (b : Bool) → (if b then None else Some u) ≡ Some t → Some u ≡ Some t
    by true e = absurd (cc)
    by false e = e

ready-tick : (script : Script) (S : State) (qs : List ObjNo) → IsReadyList script S qs → IsReadyList script S (after_tick S qs)
ready-tick script S qs h =
    ready-behind script S qs (turned S.synchronization.nano (first_ready S qs))
    (λ t e. first_listed S qs t (turned_is S.synchronization.nano (first_ready S qs) t e)) h

-- the ready list has exactly the threads that are ready, each once, also after an actor's action
pub ready-next : (script : Script) (S : State) (actor : Actor) (qs : List ObjNo) → IsShaped script → AreRows script S
    → IsReadyList script S qs → IsReadyList script (next script S actor) (arrived_next script S actor qs)
ready-next script S (Thread t) qs shaped rows h = ready-act script S t qs shaped rows h
ready-next script S (Irq k) qs shaped rows h = ready-interrupt script S k qs shaped rows h
ready-next script S Idfc qs shaped rows h = ready-immediate script S qs shaped rows h
ready-next script S Tick qs shaped rows h = ready-tick script S qs h
ready-next script S Idle qs shaped rows h = h

pub well_formed-next : (script : Script) (S : State) (actor : Actor) (qs : List ObjNo) → IsShaped script
    → IsWellFormed script S qs → IsWellFormed script (next script S actor) (arrived_next script S actor qs)
well_formed-next script S actor qs shaped h = record {
  rows = (sound-next script S actor shaped h.rows).rows;
  ready = ready-next script S actor qs shaped h.rows h.ready;
}
