-- The line of an entry.
use Rattle.entry_log.specs.ActorText.{actor_text}
use Rattle.entry_log.specs.EffectText.{effect_text}
use Rattle.entry_log.specs.Joined.{joined, preceded}
use Rattle.entry_log.specs.StepText.{step_text}
use Rattle.entry_log.specs.declared.entry.Actor.TheVariants as actor
use Rattle.entry_log.specs.declared.entry.Entry.{Entry}
use Rattle.entry_log.specs.declared.step.Step.TheVariants as step
use Rattle.std.specs.Fmt.{signed_decimal}
use Rattle.std.specs.Prelude.{ℕ, ℤ, List, [], ◌∷◌, ◌++◌, Option, Some, None, codes, decimal, map}

-- an equals sign and the number that was answered, where there is one
unfoldable pub answer_words : Option ℤ → List (List ℕ)
answer_words None = []
answer_words (Some number) = codes "=" ∷ signed_decimal number ∷ []

-- the place, the actor, the step, each effect, and the answer
unfoldable pub entry_words : Entry → List (List ℕ)
entry_words entry = decimal entry.place ∷ actor_text entry.actor ∷ step_text entry.step ∷ (map effect_text entry.effects ++ answer_words entry.answer)

-- an entry's words with single spaces between them, and LF, as `5 t3 close.do -p2.0:4 = 0`
unfoldable pub entry_line : Entry → List ℕ
entry_line entry = joined 32 (entry_words entry) ++ codes "\n"

-- the part of it behind the place
unfoldable pub behind_place : Entry → List ℕ
behind_place entry =
    preceded 32 (actor_text entry.actor ∷ step_text entry.step ∷ (map effect_text entry.effects ++ answer_words entry.answer)) ++ codes "\n"

-- the entry of a slot in which nobody acts
abbrev pub idle_entry : ℕ → Entry
idle_entry place = record { place = place; actor = actor.Idle; step = step.Wait; effects = []; answer = None }
