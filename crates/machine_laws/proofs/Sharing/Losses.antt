-- An action takes one reference away at most, so that one choice is enough, whether what it closes is kept; a return takes none, and what
-- is done without a thread neither.
use Rattle.std.proofs.Common.{◌≡◌, ◌≤◌, ℕ, ◌+◌, ◌∙◌, List, [], ◌∷◌, inl, inr, arith, refl, sym, ap, Option, Some, None, Bool, true, false, ◌⊎◌, ◌<◌, subst}
use Rattle.std.specs.Prelude.{slice_get}
use Rattle.sym_base.specs.declared.number.ObjNo.{ObjNo}
use Rattle.script_types.specs.declared.script.Script.{Script}
use Rattle.script_types.specs.Shape.{IsShaped}
use Rattle.entry_log.specs.declared.entry.Actor.{Actor}
use Rattle.entry_log.specs.declared.entry.Actor.TheVariants.{Thread, Irq, Idfc as IdfcActor, Tick, Idle}
use Rattle.script_types.specs.declared.declaration.DfcDecl.{DfcDecl}
use Rattle.script_types.specs.declared.declaration.IdfcDecl.{IdfcDecl}
use Rattle.state_rows.specs.declared.deferred.Item.{Item}
use Rattle.state_rows.specs.declared.deferred.Item.TheVariants.{Idfc, Move as MoveOf}
use Rattle.state_rows.specs.Deferred.{next_immediate}
use Rattle.machine.specs.declared.moves.Move.{Move}
use Rattle.machine.specs.declared.plan.Body.TheVariants.{Interrupt}
use Rattle.machine.specs.declared.plan.Plan.TheVariants.{Runs}
use Rattle.machine.specs.declared.state.State.{State}
use Rattle.machine.specs.Bodies.{decision_by, run_idfc}
use Rattle.machine.specs.History.{transition}
use Rattle.machine.specs.Interrupts.{immediate, immediate_plan, interrupt, step_of_move, supervisor}
use Rattle.machine.specs.Transition.{act}
use Rattle.machine.specs.Fits.{Fits}
use Rattle.machine.specs.References.{total}
use Rattle.machine.specs.SharedRun.{is_return}
use Rattle.machine.specs.declared.decision.Decision.{Decision}
use Rattle.machine.specs.declared.moves.Move.TheVariants.{Find, Pay}
use Rattle.state_rows.specs.declared.duty.Owed.{Owed}
use Rattle.move_laws.proofs.References.Same.{if_is, if_not, same_self}
use Rattle.machine.specs.Steps.{decision_of}
use Rattle.machine.specs.WellFormed.{AreRows}
use Rattle.machine_laws.proofs.Fitting.Actions.{fits-action, regular-action}
use Rattle.machine_laws.proofs.Fitting.Bodies.{OwesNothing, light_loses}
use Rattle.machine_laws.proofs.Fitting.Interrupts.{light-immediate, light-interrupt}
use Rattle.machine_laws.proofs.Fitting.Regular.{find_bit, finding_bit, coming_bit, plain, return_bit}
use Rattle.machine_laws.proofs.Reached.Choices.{close_bit, closes-few, no-pay}

-- the moves of an actor
abbrev pub moves_of : Script → State → Actor → List Move
moves_of script S (Thread t) = (decision_of script S t).moves
moves_of script S (Irq k) = (decision_by script supervisor S (Runs (Interrupt k))).moves
moves_of script S IdfcActor = (decision_by script supervisor S (immediate_plan script S (next_immediate S.synchronization.deferred))).moves
moves_of script S Tick = []
moves_of script S Idle = []

-- what a thread does comes back exactly in a step that is a return, and gives one reference up or is a return, at most
comes-action : (script : Script) (S : State) (t : ObjNo) → IsShaped script → AreRows script S
    → total coming_bit (decision_of script S t).moves ≡ return_bit (decision_of script S t).step
comes-action script S t shaped rows = (regular-action script S t shaped rows).1.comes

pay-stays : (what : Owed) → total coming_bit (Pay what ∷ []) ≡ 0
pay-stays what = refl

once-action : (script : Script) (S : State) (t : ObjNo) → IsShaped script → AreRows script S
    → total close_bit (decision_of script S t).moves + total coming_bit (decision_of script S t).moves ≤ 1
once-action script S t shaped rows = elim (fits-action script S t shaped rows) as (λ _. total close_bit d.moves + total coming_bit d.moves ≤ 1) [
  | inl fits ↦ by (is_return d.step) refl fits
  | inr pays ↦
      (let few = closes-few script S t shaped rows in
      let none : total coming_bit d.moves ≡ 0 = ap (total coming_bit) pays.moves ∙ pay-stays pays.what in omega arith)
]
  where
    d : Decision
    d = decision_of script S t

    by : (b : Bool) → is_return d.step ≡ b → Fits script t d.moves S → total close_bit d.moves + total coming_bit d.moves ≤ 1
    by true is fits =
        let none = ((regular-action script S t shaped rows).1.returns is).1 in
        let same = no-pay script t d.moves S fits.each in
        let comes : total coming_bit d.moves ≡ 1 = comes-action script S t shaped rows ∙ if_is (is_return d.step) 1 is in omega arith
    by false is fits =
        let few = closes-few script S t shaped rows in
        let comes : total coming_bit d.moves ≡ 0 = comes-action script S t shaped rows ∙ if_not (is_return d.step) 1 is in omega arith

-- what is done without a thread takes none away, and is no return
pub record LosesNone (ms : List Move) : Type 0 where
  pub none : total close_bit ms ≡ 0
  pub stays : total coming_bit ms ≡ 0

loses-light : (script : Script) (S : State) (t : ObjNo) (ms : List Move) (most : ℕ) → OwesNothing plain script t S ms most → LosesNone ms
loses-light script S t ms most light = record {
  none = let most = no-pay script t ms S light.each in let none = light_loses light refl in omega arith;
  stays = light.calm.comes;
}

pub keeps-interrupt : (script : Script) (S : State) (k : ℕ) → IsShaped script → AreRows script S → LosesNone (moves_of script S (Irq k))
keeps-interrupt script S k shaped rows = loses-light script S supervisor _ 4 (light-interrupt script S k shaped rows)

pub keeps-immediate : (script : Script) (S : State) → IsShaped script → AreRows script S → LosesNone (moves_of script S IdfcActor)
keeps-immediate script S shaped rows =
    loses-light script S supervisor _ 4 (light-immediate script S
    (next_immediate S.synchronization.deferred) shaped rows refl)

-- so each actor does one of the two at most
pub once-next : (script : Script) (S : State) (actor : Actor) → IsShaped script → AreRows script S
    → total close_bit (moves_of script S actor) + total coming_bit (moves_of script S actor) ≤ 1
once-next script S (Thread t) shaped rows = once-action script S t shaped rows
once-next script S (Irq k) shaped rows = let keeps = keeps-interrupt script S k shaped rows in let none = keeps.none in let stays = keeps.stays in omega arith
once-next script S IdfcActor shaped rows = let keeps = keeps-immediate script S shaped rows in let none = keeps.none in let stays = keeps.stays in omega arith
once-next script S Tick shaped rows = omega arith
once-next script S Idle shaped rows = omega arith

-- and comes back exactly in a step that is a return
run-stays : (found : Option IdfcDecl) → return_bit (run_idfc found) ≡ 0
run-stays None = refl
run-stays (Some idfc) = refl

move-stays : (found : Option DfcDecl) → return_bit (step_of_move found) ≡ 0
move-stays None = refl
move-stays (Some dfc) = refl

item-stays : (script : Script) (S : State) (found : Option Item) → return_bit (decision_by script supervisor S (immediate_plan script S found)).step ≡ 0
item-stays script S None = refl
item-stays script S (Some (Idfc call)) = run-stays (slice_get script.idfcs call)
item-stays script S (Some (MoveOf dfc)) = move-stays (slice_get script.dfcs dfc)

comes-act : (script : Script) (S : State) (t : ObjNo) → IsShaped script → AreRows script S
    → total coming_bit (decision_of script S t).moves ≡ return_bit (act script S t).outcome.step
unfolding act
comes-act script S t shaped rows = comes-action script S t shaped rows

comes-interrupt : (script : Script) (S : State) (k : ℕ) → IsShaped script → AreRows script S
    → total coming_bit (moves_of script S (Irq k)) ≡ return_bit (interrupt script S k).outcome.step
unfolding interrupt
comes-interrupt script S k shaped rows = (keeps-interrupt script S k shaped rows).stays

comes-immediate : (script : Script) (S : State) → IsShaped script → AreRows script S
    → total coming_bit (moves_of script S IdfcActor) ≡ return_bit (immediate script S).outcome.step
unfolding immediate
comes-immediate script S shaped rows = (keeps-immediate script S shaped rows).stays ∙ sym (item-stays script S (next_immediate S.synchronization.deferred))

pub comes-next : (script : Script) (S : State) (actor : Actor) → IsShaped script → AreRows script S
    → total coming_bit (moves_of script S actor) ≡ return_bit (transition script S actor).outcome.step
comes-next script S (Thread t) shaped rows = comes-act script S t shaped rows
comes-next script S (Irq k) shaped rows = comes-interrupt script S k shaped rows
comes-next script S IdfcActor shaped rows = comes-immediate script S shaped rows
comes-next script S Tick shaped rows = refl
comes-next script S Idle shaped rows = refl

-- and an actor finds one object at most
pub any-find : (ms : List Move) → (total finding_bit ms ≡ 0) ⊎ ((o : ObjNo) × (0 < total (find_bit o) ms))
any-find [] = inl refl
any-find (Find u o ∷ ms) = inr (o, let self = same_self o in omega arith)
any-find (m ∷ ms) = elim (any-find ms) as (λ _. (total finding_bit (m ∷ ms) ≡ 0) ⊎ ((o : ObjNo) × (0 < total (find_bit o) (m ∷ ms)))) [
  | inl none ↦ inl (omega arith)
  | inr some ↦ inr (some.0, (let a = some.1 in omega arith))
]

finds-action : (script : Script) (S : State) (t : ObjNo) → IsShaped script → AreRows script S → total finding_bit (decision_of script S t).moves ≤ 1
finds-action script S t shaped rows = elim (any-find (decision_of script S t).moves) as (λ _. total finding_bit (decision_of script S t).moves ≤ 1) [
  | inl none ↦ omega arith
  | inr some ↦ (
      let finding = (regular-action script S t shaped rows).1.finds some.0 some.1 in
      let alone : total finding_bit (Find t some.0 ∷ []) ≤ 1 = omega arith in
      subst (λ (ms : List Move). total finding_bit ms ≤ 1) (sym finding.moves) alone)
]

finds-none : (ms : List Move) → ((o : ObjNo) → total (find_bit o) ms ≡ 0) → total finding_bit ms ≤ 1
finds-none ms none = elim (any-find ms) as (λ _. total finding_bit ms ≤ 1) [
  | inl all ↦ omega arith
  | inr some ↦ (let a = none some.0 in let b = some.1 in absurd (omega arith))
]

pub finds-once : (script : Script) (S : State) (actor : Actor) → IsShaped script → AreRows script S → total finding_bit (moves_of script S actor) ≤ 1
finds-once script S (Thread t) shaped rows = finds-action script S t shaped rows
finds-once script S (Irq k) shaped rows = finds-none _ (light-interrupt script S k shaped rows).calm.finds
finds-once script S IdfcActor shaped rows = finds-none _ (light-immediate script S (next_immediate S.synchronization.deferred) shaped rows refl).calm.finds
finds-once script S Tick shaped rows = omega arith
finds-once script S Idle shaped rows = omega arith
