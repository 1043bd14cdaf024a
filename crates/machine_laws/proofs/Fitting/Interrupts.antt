-- What is done without a thread fits: the body of an interrupt, and the oldest item of the immediate queue.
use Rattle.std.proofs.Common.{◌≡◌, ℕ, arith, refl, Option, Some, None}
use Rattle.script_types.specs.declared.script.Script.{Script}
use Rattle.script_types.specs.Shape.{IsShaped}
use Rattle.state_rows.specs.Deferred.{IsKnown, next_immediate}
use Rattle.state_rows.specs.declared.deferred.Item.{Item}
use Rattle.state_rows.specs.declared.deferred.Item.TheVariants.{Idfc, Move as MoveOf}
use Rattle.machine.specs.declared.plan.Body.TheVariants.{Interrupt, Immediate}
use Rattle.machine.specs.declared.plan.Plan.TheVariants.{Runs}
use Rattle.machine.specs.declared.state.State.{State}
use Rattle.machine.specs.Bodies.{decision_by}
use Rattle.machine.specs.Fits.{Sane}
use Rattle.machine.specs.Interrupts.{immediate_plan, move_call, supervisor}
use Rattle.machine.specs.WellFormed.{AreRows}
use Rattle.move_laws.proofs.RowLaws.Declared.{first-all}
use Rattle.machine_laws.proofs.Fitting.Bodies.{Goes, OwesNothing, goes-light, light-body, no_moves}
use Rattle.machine_laws.proofs.Fitting.Regular.{plain}
use Rattle.machine_laws.proofs.Fitting.Tame.{tame-moves}

-- the supervisor is there
pub sane-supervisor : (script : Script) (S : State) → AreRows script S → Sane script supervisor S
sane-supervisor script S rows = record { rows = rows; inside = let two = rows.references.sized.supervised in omega arith }

-- an interrupt
pub light-interrupt : (script : Script) (S : State) (k : ℕ) → IsShaped script → AreRows script S
    → OwesNothing plain script supervisor S (decision_by script supervisor S (Runs (Interrupt k))).moves 4
light-interrupt script S k shaped rows = light-body script S supervisor (Interrupt k) shaped (sane-supervisor script S rows)

pub goes-interrupt : (script : Script) (S : State) (k : ℕ) → IsShaped script → AreRows script S
    → Goes script supervisor S (decision_by script supervisor S (Runs (Interrupt k))).moves
goes-interrupt script S k shaped rows = goes-light script S supervisor _ rows (light-interrupt script S k shaped rows)

-- a deferred call leaves the immediate queue and joins its own
light-move : (script : Script) (S : State) (dfc : ℕ) → IsKnown S.synchronization.deferred (MoveOf dfc)
    → OwesNothing plain script supervisor S (move_call script S dfc).moves 4
light-move script S dfc known = record { each = (tt, ((known, refl), tt)); told = omega arith; light = refl; calm = tame-moves _ refl refl }

-- the oldest item of the immediate queue
pub light-immediate : (script : Script) (S : State) (found : Option Item) → IsShaped script → AreRows script S
    → next_immediate S.synchronization.deferred ≡ found
    → OwesNothing plain script supervisor S (decision_by script supervisor S (immediate_plan script S found)).moves 4
light-immediate script S None shaped rows is = no_moves script S supervisor 4
light-immediate script S (Some (Idfc call)) shaped rows is = light-body script S supervisor (Immediate call) shaped (sane-supervisor script S rows)
light-immediate script S (Some (MoveOf dfc)) shaped rows is =
    light-move script S dfc (first-all (IsKnown S.synchronization.deferred) S.synchronization.deferred.immediate
    (MoveOf dfc) rows.synchronization.deferred.known is)

pub goes-immediate : (script : Script) (S : State) (found : Option Item) → IsShaped script → AreRows script S
    → next_immediate S.synchronization.deferred ≡ found
    → Goes script supervisor S (decision_by script supervisor S (immediate_plan script S found)).moves
goes-immediate script S found shaped rows is = goes-light script S supervisor _ rows (light-immediate script S found shaped rows is)
