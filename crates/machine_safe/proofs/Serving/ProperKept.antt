-- What each move keeps that fits and is proper, and each payment, is kept by an action whose moves are proper.
use Rattle.std.proofs.Common.{List, [], arith, refl, ℕ, ◌+◌, ◌≤◌, ◌∷◌}
use Rattle.sym_base.specs.declared.number.ObjNo.{ObjNo}
use Rattle.script_types.specs.declared.script.Script.{Script}
use Rattle.script_types.specs.Shape.{IsShaped}
use Rattle.entry_log.specs.declared.entry.Actor.{Actor}
use Rattle.entry_log.specs.declared.entry.Actor.TheVariants.{Thread, Irq, Idfc, Tick, Idle}
use Rattle.state_rows.specs.Deferred.{next_immediate}
use Rattle.state_rows.specs.declared.duty.Owed.{Owed}
use Rattle.machine.specs.declared.moves.Move.{Move}
use Rattle.machine.specs.declared.moves.Move.TheVariants as move
use Rattle.machine.specs.declared.plan.Body.TheVariants.{Interrupt}
use Rattle.machine.specs.declared.plan.Plan.{Plan}
use Rattle.machine.specs.declared.plan.Plan.TheVariants.{Runs}
use Rattle.machine.specs.declared.state.State.{State}
use Rattle.machine.specs.Bodies.{decision_by}
use Rattle.machine.specs.Fits.{EachFits, FitsMove, Sane, most_owed}
use Rattle.machine.specs.History.{next}
use Rattle.machine.specs.Interrupts.{done_by, immediate, immediate_plan, interrupt, supervisor}
use Rattle.machine.specs.Moves.{moved, perform, told}
use Rattle.machine.specs.References.{total}
use Rattle.machine.specs.Rows.{owed_of}
use Rattle.machine.specs.Steps.{decision_of}
use Rattle.machine.specs.Transition.{act}
use Rattle.machine.specs.WellFormed.{AreRows, weight}
use Rattle.machine_laws.proofs.Fitting.Actions.{of_action}
use Rattle.machine_laws.proofs.Fitting.Bodies.{Goes}
use Rattle.machine_laws.proofs.Fitting.Interrupts.{goes-immediate, goes-interrupt, sane-supervisor}
use Rattle.move_laws.proofs.MoveLaws.Run.{sane-after, sound-move, weight-move}
use Rattle.machine_safe.proofs.Serving.NextActions.{IsProperly}
use Rattle.machine_safe.proofs.Serving.Proper.{AreProper, Going, IsProper, onward, resting, stepping}
use Rattle.machine_safe.proofs.Serving.ProperLists.{proper-body}

-- a law P of states that holds before an action and behind it, and what holds of it before each move, with the moves from that on
pub record IsKept (script : Script) (P : State → Type 0) (Q : Going → State → List Move → Type 0) : Type 0 where
  pub begins : (S : State) (t : ObjNo) (ms : List Move) → P S → Q (stepping S t) S ms
  pub rests : (S : State) (ms : List Move) → P S → Q (resting S) S ms
  pub ends : (by : Going) (S : State) → Q by S [] → P S
  pub moves : (by : Going) (S : State) (t : ObjNo) (m : Move) (ms : List Move) → AreRows script S
      → FitsMove script t m S → IsProper script by m ms → Q by S (m ∷ ms) → Q (onward by m) (moved t m S) ms
  pub pays : (S : State) (t : ObjNo) (what : Owed) → AreRows script S → P S → P (moved t (move.Pay what) S)

module _ (script : Script) (P : State → Type 0) (Q : Going → State → List Move → Type 0) (kept : IsKept script P Q) where
  each-kept : (by : Going) (S : State) (t : ObjNo) (ms : List Move) → EachFits script t ms S → AreProper script by ms
      → total weight (owed_of S t) + total most_owed ms ≤ 12 → Sane script t S → Q by S ms → P (perform t ms S)
  each-kept by S t [] fits proper few s q = kept.ends by S q
  each-kept by S t (m ∷ ms) fits proper few s q =
      let one = sound-move script S t m fits.0 (omega arith) s in
      let w = weight-move script S t m fits.0 in
      each-kept (onward by m) (moved t m S) t ms fits.1 proper.1 (omega arith)
      (sane-after script S (moved t m S) t (told m S) s one) (kept.moves by S t m ms s.rows fits.0 proper.0 q)

  kept-act : (S : State) (t : ObjNo) → IsShaped script → AreRows script S
      → AreProper script (stepping S t) (decision_of script S t).moves → P S → P (act script S t).state
  unfolding act
  kept-act S t shaped rows proper p = of_action script S t (λ (ms : List Move). AreProper script (stepping S t) ms → P (perform t ms S)) shaped rows
      (λ ms sane goes are. each-kept (stepping S t) S t ms goes.each are goes.few sane (kept.begins S t ms p))
      (λ what rest sane owes are. kept.pays S t what rows p) (λ are. p) proper

  kept-done : (S : State) (plan : Plan) → AreRows script S
      → Goes script supervisor S (decision_by script supervisor S plan).moves
      → AreProper script (resting S) (decision_by script supervisor S plan).moves → P S
      → P (done_by script S plan).state
  kept-done S plan rows goes proper p =
      each-kept (resting S) S supervisor (decision_by script supervisor S plan).moves goes.each proper goes.few
      (sane-supervisor script S rows) (kept.rests S (decision_by script supervisor S plan).moves p)

  kept-interrupt : (S : State) (k : ℕ) → IsShaped script → AreRows script S → P S → P (interrupt script S k).state
  unfolding interrupt
  kept-interrupt S k shaped rows p =
      kept-done S (Runs (Interrupt k)) rows (goes-interrupt script S k shaped rows)
      (proper-body script S supervisor (Interrupt k)) p

  kept-immediate : (S : State) → IsShaped script → AreRows script S → IsProperly script S → P S → P (immediate script S).state
  unfolding immediate
  kept-immediate S shaped rows properly p =
      let found = next_immediate S.synchronization.deferred in
      kept-done S (immediate_plan script S found) rows
      (goes-immediate script S found shaped rows refl) properly.immediate p

  pub proper-next : (S : State) (actor : Actor) → IsShaped script → AreRows script S → IsProperly script S → P S → P (next script S actor)
  proper-next S (Thread t) shaped rows properly p = kept-act S t shaped rows (properly.acts t) p
  proper-next S (Irq k) shaped rows properly p = kept-interrupt S k shaped rows p
  proper-next S Idfc shaped rows properly p = kept-immediate S shaped rows properly p
  proper-next S Tick shaped rows properly p = p
  proper-next S Idle shaped rows properly p = p
