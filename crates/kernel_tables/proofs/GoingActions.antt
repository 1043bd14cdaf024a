-- The moves of each action go through, with either choice.
use Rattle.std.proofs.Common.{◌≡◌, ◌⊎◌, inl, inr, Bool, true, false, ℕ, ◌≤◌, List, [], ◌∷◌, length, arith, refl, sym, subst, ◌∙◌}
use Rattle.std.proofs.lemmas.Bool.{cases_Bool}
use Rattle.sym_base.specs.declared.number.ObjNo.{ObjNo}
use Rattle.script_types.specs.declared.script.Script.{Script}
use Rattle.script_types.specs.Shape.{IsShaped}
use Rattle.entry_log.specs.declared.entry.Actor.TheVariants.{Thread}
use Rattle.state_rows.specs.Deferred.{next_immediate}
use Rattle.machine.specs.declared.decision.Decision.{Decision}
use Rattle.machine.specs.declared.moves.Move.{Move}
use Rattle.machine.specs.declared.moves.Move.TheVariants.{Make, Pay}
use Rattle.machine.specs.declared.plan.Body.TheVariants.{Interrupt}
use Rattle.machine.specs.declared.plan.Plan.TheVariants.{Runs}
use Rattle.machine.specs.declared.state.State.{State}
use Rattle.machine.specs.Bodies.{decision_by}
use Rattle.machine.specs.Fits.{Sane}
use Rattle.machine.specs.History.{keeping, transition}
use Rattle.machine.specs.Interrupts.{immediate_plan, supervisor}
use Rattle.machine.specs.Moves.{tell}
use Rattle.machine.specs.References.{total}
use Rattle.machine.specs.SharedRun.{is_return}
use Rattle.machine.specs.Steps.{decision_of}
use Rattle.machine.specs.Task.{is_able}
use Rattle.machine.specs.WellFormed.{AreRows}
use Rattle.machine_laws.proofs.Fitting.Actions.{of_action, regular-action}
use Rattle.machine_laws.proofs.Fitting.Bodies.{Goes, light_loses}
use Rattle.machine_laws.proofs.Fitting.Interrupts.{goes-immediate, goes-interrupt, light-immediate, light-interrupt, sane-supervisor}
use Rattle.machine_laws.proofs.Fitting.Regular.{once_bit}
use Rattle.machine_laws.proofs.Reached.AfterHistory.{rows-keeping}
use Rattle.machine_laws.proofs.Reached.Choices.{body-same, closes-few, decision-same, plan-same}
use Rattle.machine_laws.proofs.Sharing.Losses.{comes-next, keeps-immediate, keeps-interrupt}
use Rattle.machine_laws.proofs.Sharing.Parts.{able-back, unless-returner}
use Rattle.move_laws.proofs.Numbers.FewEffects.{tell_few}
use Rattle.move_laws.proofs.References.Same.{if_not}
use Rattle.kernel_tables.specs.Choosing.{closing_bit}
use Rattle.kernel_tables.specs.Moved.{MovesGo, MovesRun, making_bit}
use Rattle.kernel_tables.specs.Performed.{ActionGoes}
use Rattle.kernel_tables.proofs.GoingMoves.{each_goes, each_runs, opening_bit, opens_none, pay_goes}
use Rattle.kernel_tables.proofs.Performing.{closes_all}

-- one caller alone calls the kernel, or no move opens what a thread found
abbrev pub ComesAlone : State → List Move → Type 0
ComesAlone S ms = (S.mode.shared ≡ false) ⊎ (total opening_bit ms ≡ 0)

-- the moves go through in this state, and tell what an entry has room for
abbrev GoesIn : Script → ObjNo → List Move → State → Type 0
GoesIn script t ms S = MovesGo script t ms S × (length (tell t ms S) ≤ 4)

fitting_goes : (script : Script) (S : State) (t : ObjNo) (ms : List Move) → IsShaped script → Sane script t S
    → ComesAlone S ms → Goes script t S ms → GoesIn script t ms S
fitting_goes script S t ms shaped s alone goes = (each_goes script S t ms shaped goes.each goes.few s alone, goes.told)

action_in : (script : Script) (S : State) (t : ObjNo) → IsShaped script → AreRows script S
    → ComesAlone S (decision_of script S t).moves → GoesIn script t (decision_of script S t).moves S
action_in script S t shaped rows =
    of_action script S t (λ (ms : List Move). ComesAlone S ms → GoesIn script t ms S) shaped rows
    (λ ms s goes alone. fitting_goes script S t ms shaped s alone goes)
    (λ what rest s owes alone. ((pay_goes script S t what rest owes s, tt), (let few = tell_few t (Pay what ∷ []) S in omega arith)))
    (λ alone. (tt, omega arith))

-- whoever makes an object makes one at most
make_le : (m : Move) → making_bit m ≤ once_bit m
make_le (Make kind name h) = omega arith
make_le m = omega arith

makes_le : (ms : List Move) → total making_bit ms ≤ total once_bit ms
makes_le [] = omega arith
makes_le (m ∷ ms) = let here = make_le m in let rest = makes_le ms in omega arith

-- decided in each of two states alike, and going through in both
both_go : (script : Script) (t : ObjNo) (S : State) (decide : State → Decision)
    → ((keep : Bool) → decide (keeping keep S) ≡ decide S)
    → ((keep : Bool) → ComesAlone S (decide (keeping keep S)).moves
    → GoesIn script t (decide (keeping keep S)).moves (keeping keep S))
    → ComesAlone S (decide S).moves → (keep : Bool) → GoesIn script t (decide S).moves (keeping keep S)
both_go script t S decide same goes alone keep =
    subst (λ (d : Decision). GoesIn script t d.moves (keeping keep S)) (same keep)
    (goes keep (subst (λ (d : Decision). ComesAlone S d.moves) (sym (same keep)) alone))

-- moves that fit with either choice
pub each_choice_goes : (script : Script) (S : State) (t : ObjNo) (ms : List Move) → IsShaped script
    → ((keep : Bool) → Sane script t (keeping keep S)) → ComesAlone S ms
    → ((keep : Bool) → Goes script t (keeping keep S) ms) → total closing_bit ms ≤ 1 → total making_bit ms ≤ 1 → ActionGoes script t ms S
each_choice_goes script S t ms shaped sane alone goes once makes = record {
  each = λ keep. (fitting_goes script (keeping keep S) t ms shaped (sane keep) alone (goes keep)).0;
  few = λ keep. (fitting_goes script (keeping keep S) t ms shaped (sane keep) alone (goes keep)).1;
  once = once;
  makes = makes;
}

-- those of each action of a thread, but for a return where callers share the kernel
pub action_goes : (script : Script) (S : State) (t : ObjNo) → IsShaped script → AreRows script S
    → ComesAlone S (decision_of script S t).moves → ActionGoes script t (decision_of script S t).moves S
action_goes script S t shaped rows alone =
    let goes = both_go script t S (λ (T : State). decision_of script T t)
    (λ keep. decision-same script S t keep shaped rows)
    (λ keep. action_in script (keeping keep S) t shaped (rows-keeping script S keep rows)) alone in
    record {
      each = λ keep. (goes keep).0;
      few = λ keep. (goes keep).1;
      once = let few = closes-few script S t shaped rows in let same = closes_all (decision_of script S t).moves in omega arith;
      makes =
          let few = (regular-action script S t shaped rows).1.loses in
          let most = makes_le (decision_of script S t).moves in omega arith;
    }

-- what they leave is in order, a return's too
pub action_runs : (script : Script) (S : State) (t : ObjNo) → IsShaped script → AreRows script S → MovesRun script t (decision_of script S t).moves S
action_runs script S t shaped rows =
    of_action script S t (λ (ms : List Move). MovesRun script t ms S) shaped rows
    (λ ms s goes. each_runs script S t ms goes.each goes.few s)
    (λ what rest s owes. ((pay_goes script S t what rest owes s).runs, tt)) tt

-- who is able makes no return there
pub able_goes : (script : Script) (S : State) (t : ObjNo) → IsShaped script → AreRows script S
    → is_able script S t ≡ true → ActionGoes script t (decision_of script S t).moves S
able_goes script S t shaped rows able =
    action_goes script S t shaped rows (elim (cases_Bool S.mode.shared) as
    (λ _. ComesAlone S (decision_of script S t).moves) [
      | inl shared ↦
          let back = able-back script S t shared able in
          let stays = unless-returner script S (Thread t) shaped rows (λ returns. let clash : true ≡ false = sym returns ∙ back in absurd (cc)) in
          inr (opens_none (decision_of script S t).moves
          (comes-next script S (Thread t) shaped rows
          ∙ if_not (is_return (transition script S (Thread t)).outcome.step) 1 stays))
      | inr alone ↦ inl alone
    ])

-- of the body of an interrupt
pub interrupt_goes : (script : Script) (S : State) (k : ℕ) → IsShaped script → AreRows script S
    → ActionGoes script supervisor (decision_by script supervisor S (Runs (Interrupt k))).moves S
interrupt_goes script S k shaped rows =
    let decide : State → Decision = λ T. decision_by script supervisor T (Runs (Interrupt k)) in
    let keeps = keeps-interrupt script S k shaped rows in
    let goes = both_go script supervisor S decide
    (λ keep. body-same script supervisor S keep (Interrupt k) (sane-supervisor script S rows))
    (λ keep alone. let here = rows-keeping script S keep rows in
    fitting_goes script (keeping keep S) supervisor _ shaped (sane-supervisor script (keeping keep S) here) alone
    (goes-interrupt script (keeping keep S) k shaped here)) (inr (opens_none (decide S).moves keeps.stays)) in
    record {
      each = λ keep. (goes keep).0;
      few = λ keep. (goes keep).1;
      once = let none = keeps.none in let same = closes_all (decide S).moves in omega arith;
      makes =
          let none = light_loses (light-interrupt script S k shaped rows) refl in
          let most = makes_le (decide S).moves in omega arith;
    }

-- and of the oldest item of the immediate queue
pub immediate_goes : (script : Script) (S : State) → IsShaped script → AreRows script S
    → ActionGoes script supervisor (decision_by script supervisor S
    (immediate_plan script S (next_immediate S.synchronization.deferred))).moves S
immediate_goes script S shaped rows =
    let found = next_immediate S.synchronization.deferred in
    let decide : State → Decision = λ T. decision_by script supervisor T (immediate_plan script T found) in
    let keeps = keeps-immediate script S shaped rows in
    let goes = both_go script supervisor S decide (λ keep. plan-same script S keep found rows)
    (λ keep alone. let here = rows-keeping script S keep rows in
    fitting_goes script (keeping keep S) supervisor _ shaped (sane-supervisor script (keeping keep S) here) alone
    (goes-immediate script (keeping keep S) found shaped here refl)) (inr (opens_none (decide S).moves keeps.stays)) in
    record {
      each = λ keep. (goes keep).0;
      few = λ keep. (goes keep).1;
      once = let none = keeps.none in let same = closes_all (decide S).moves in omega arith;
      makes =
          let none = light_loses (light-immediate script S found shaped rows refl) refl in
          let most = makes_le (decide S).moves in omega arith;
    }
