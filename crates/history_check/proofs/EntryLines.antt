-- The line of an entry: where its words stand, and whether one of them is the text of a death.
use Rattle.entry_log.specs.ActorText.{actor_text}
use Rattle.entry_log.specs.EffectText.{effect_fields, effect_text}
use Rattle.entry_log.specs.EntryLine.{answer_words, entry_line, entry_words}
use Rattle.entry_log.specs.IsEntry.{IsStep}
use Rattle.entry_log.specs.Joined.{joined, preceded}
use Rattle.entry_log.specs.StepText.{step_text}
use Rattle.entry_log.specs.declared.effect.Effect.{Effect}
use Rattle.entry_log.specs.declared.effect.Effect.TheVariants.{Plus, Minus, Dead, Swept, Seek, Missed, Accept, Finish, Signal, Take, Give, Terminated, Doom, Bury}
use Rattle.entry_log.specs.declared.entry.Entry.{Entry}
use Rattle.std.proofs.Common.{◌≡◌, ℕ, ◌<◌, zero, suc, Bool, true, false, List, [], ◌∷◌, ◌++◌, take, length, map, codes, decimal, nat_eq, refl, ap, ◌∙◌, append_assoc, arith}
use Rattle.std.specs.List.{list_all, list_any}
use Rattle.script_types.specs.SourceText.{split}
use Rattle.script_words.proofs.Steps.{both, by_test, same_bytes}
use Rattle.plain_machine.specs.Deaths.{is_death}
use Rattle.history_check.specs.DeathText.{is_death_text, tells_death}
use Rattle.history_check.proofs.Bytes.{all_free, decimal_field, field_byte, free, free_by, joined_all, line_byte, split_joined, word_byte, words_are_lines}
use Rattle.history_check.proofs.EntryBytes.{actor_field, answer_fields, entry_bytes, step_field}

-- an entry's line without its line feed
abbrev pub body : Entry → List ℕ
body e = joined 32 (entry_words e)

pub line_is : (e : Entry) → entry_line e ≡ body e ++ 10 ∷ []
unfolding entry_line
line_is e = refl

pub body_free : (e : Entry) → IsStep e.step → free 10 (body e) ≡ true
body_free e known = free_by line_byte 10 (body e) refl (joined_all line_byte 32 (entry_words e) refl (words_are_lines (entry_words e) (entry_bytes e known)))

some_words : (e : Entry) → 0 < length (entry_words e)
unfolding entry_words
some_words e = omega arith

pub body_words : (e : Entry) → IsStep e.step → split (λ b. nat_eq b 32) (body e) ≡ entry_words e
body_words e known = split_joined 32 (entry_words e) (some_words e) (all_free word_byte 32 (entry_words e) refl (entry_bytes e known))

-- a line begins with the place and the actor
abbrev pub behind_actor : Entry → List ℕ
behind_actor e = step_text e.step ++ preceded 32 (map effect_text e.effects ++ answer_words e.answer)

pub body_head : (e : Entry) → body e ≡ decimal e.place ++ 32 ∷ (actor_text e.actor ++ 32 ∷ behind_actor e)
unfolding entry_words joined preceded
body_head e = refl

pub line_head : (e : Entry) (more : List ℕ) → entry_line e ++ more ≡ decimal e.place ++ 32 ∷ (actor_text e.actor ++ 32 ∷ (behind_actor e ++ 10 ∷ more))
line_head e more =
    ap (λ (text : List ℕ). text ++ more) (line_is e) ∙ append_assoc (body e) (10 ∷ []) more ∙ ap (λ (text : List ℕ). text ++ 10 ∷ more) (body_head e)
    ∙ append_assoc (decimal e.place) (32 ∷ (actor_text e.actor ++ 32 ∷ behind_actor e)) (10 ∷ more)
    ∙ ap (λ (text : List ℕ). decimal e.place ++ 32 ∷ text) (append_assoc (actor_text e.actor) (32 ∷ behind_actor e) (10 ∷ more))

-- a word of fields alone is the text of no death
taken_all : (p : ℕ → Bool) (n : ℕ) (xs : List ℕ) → list_all p xs ≡ true → list_all p (take n xs) ≡ true
taken_all p zero xs all = refl
taken_all p (suc n) [] all = refl
taken_all p (suc n) (x ∷ xs) all = let h = both (p x) (list_all p xs) all in rw (h.0, taken_all p n xs h.1) refl

no_death : (word : List ℕ) → list_all field_byte word ≡ true → is_death_text word ≡ false
no_death word shown =
    by_test {P = is_death_text word ≡ false} (is_death_text word)
    (λ is. let same = same_bytes (take 5 word) (codes "dead:") is in let colon : false ≡ true = rw same at (taken_all field_byte 5 word shown) in absurd (cc))
    (λ isnt. isnt)

none_among : (words : List (List ℕ)) → list_all (list_all field_byte) words ≡ true → list_any is_death_text words ≡ false
none_among [] all = refl
none_among (word ∷ words) all =
    let h = both (list_all field_byte word) (list_all (list_all field_byte) words) all in
    rw (no_death word h.0, none_among words h.1) refl

-- an effect's text is that of a death if the effect is one
death_of : (effect : Effect) → is_death_text (effect_text effect) ≡ is_death effect
unfolding effect_text effect_fields joined preceded
death_of (Plus holder object) = refl
death_of (Minus holder object) = refl
death_of (Dead object) = refl
death_of (Swept object) = refl
death_of (Seek object) = refl
death_of (Missed object) = refl
death_of (Accept message) = refl
death_of (Finish message code) = refl
death_of (Signal thread status code) = refl
death_of (Take thread lock) = refl
death_of (Give thread lock) = refl
death_of (Terminated server) = refl
death_of (Doom thread) = refl
death_of (Bury thread) = refl

deaths_of : (effects : List Effect) (words : List (List ℕ)) → list_any is_death_text words ≡ false
    → list_any is_death_text (map effect_text effects ++ words) ≡ list_any is_death effects
deaths_of [] words none = none
deaths_of (effect ∷ effects) words none = rw (death_of effect, deaths_of effects words none) refl

told_words : (e : Entry) → IsStep e.step → list_any is_death_text (entry_words e) ≡ list_any is_death e.effects
unfolding entry_words
told_words e known =
    rw (
      no_death (decimal e.place) (decimal_field e.place),
      no_death (actor_text e.actor) (actor_field e.actor),
      no_death (step_text e.step) (step_field e.step known),
    )
    (deaths_of e.effects (answer_words e.answer) (none_among (answer_words e.answer) (answer_fields e.answer)))

-- so a line tells of a death exactly if its entry does
pub body_tells : (e : Entry) → IsStep e.step → tells_death (body e) ≡ list_any is_death e.effects
body_tells e known = ap (list_any is_death_text) (body_words e known) ∙ told_words e known
