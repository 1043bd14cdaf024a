-- The line of an entry in two parts.
use Rattle.std.proofs.Common.{◌≡◌, ℕ, List, [], ◌∷◌, ◌++◌, map, append_assoc, ◌∙◌, ap, refl, sym}
use Rattle.std.specs.Fmt.{decimal}
use Rattle.std.specs.Prelude.{codes}
use Rattle.entry_log.proofs.Joins.{preceded_sums}
use Rattle.entry_log.specs.ActorText.{actor_text}
use Rattle.entry_log.specs.EffectText.{effect_text}
use Rattle.entry_log.specs.EntryLine.{answer_words, behind_place, entry_line, entry_words, idle_entry}
use Rattle.entry_log.specs.Joined.{joined, preceded}
use Rattle.entry_log.specs.StepText.{step_text, step_words}
use Rattle.entry_log.specs.declared.entry.Entry.{Entry}

-- the place, and what stands behind it
pub line_in_two : (entry : Entry) → entry_line entry ≡ decimal entry.place ++ behind_place entry
unfolding entry_line entry_words behind_place joined
line_in_two entry = append_assoc (decimal entry.place) _ _

-- actor and step, the effects, the answer, and LF
pub behind_parts : (entry : Entry)
    → behind_place entry
    ≡ ((preceded 32 (actor_text entry.actor ∷ step_text entry.step ∷ []) ++ preceded 32 (map effect_text entry.effects))
    ++ preceded 32 (answer_words entry.answer)) ++ 10 ∷ []
unfolding behind_place
behind_parts entry =
    ap (λ (l : List ℕ). l ++ 10 ∷ [])
    (preceded_sums 32 (actor_text entry.actor ∷ step_text entry.step ∷ []) (map effect_text entry.effects) (answer_words entry.answer))

-- what stands there where nobody acts
pub behind_idle : (place : ℕ) → behind_place (idle_entry place) ≡ codes " idle wait\n"
unfolding behind_place answer_words actor_text step_text step_words joined preceded
behind_idle place = refl

-- the line of such a slot
pub idle_line : (entry : Entry) → entry ≡ idle_entry entry.place → decimal entry.place ++ codes " idle wait\n" ≡ entry_line entry
idle_line entry is =
    sym (line_in_two entry ∙ ap (λ (l : List ℕ). decimal entry.place ++ l) (ap behind_place is ∙ behind_idle entry.place))
