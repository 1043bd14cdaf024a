use Rattle.std.proofs.Common.{◌≡◌, ℕ, List, refl}
use Rattle.entry_log.specs.IsEntry.{IsStep}
use Rattle.entry_log.specs.declared.step.Step.{Step}
use Rattle.entry_log.specs.declared.step.Step.TheVariants.{RunOf, MoveOf}
use Rattle.entry_log.proofs.law.known_step.Goals as goal

no_name : (step : Step) → ((name : List ℕ) → step ≡ RunOf name → ⊥) → ((name : List ℕ) → step ≡ MoveOf name → ⊥) → IsStep step
unfolding IsStep
no_name (RunOf name) run move = absurd (run name refl)
no_name (MoveOf name) run move = absurd (move name refl)
no_name other run move = tt

pub returns-in-RunOf : goal.returns-in-RunOf
unfolding IsStep
returns-in-RunOf c = rw c.in-RunOf.is c.as_slice-bytes.ensures.text

pub returns-in-MoveOf : goal.returns-in-MoveOf
unfolding IsStep
returns-in-MoveOf c = rw c.in-MoveOf.is c.as_slice-bytes-in-MoveOf.ensures.text

pub returns-in_default : goal.returns-in_default
returns-in_default c = no_name _ c.in_default.not-RunOf c.in_default.not-MoveOf
