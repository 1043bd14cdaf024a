-- Two entries with equal words are equal.
use Rattle.entry_log.proofs.Bytes.{word_byte, decimal_name, field_is_word, name_is_field, signed_name}
use Rattle.entry_log.proofs.ReadActor.{actor_bytes, actor_read, read_actor}
use Rattle.entry_log.proofs.ReadEffect.{effect_bytes, effect_not_answer, effect_read, read_effect}
use Rattle.entry_log.proofs.ReadNumber.{fits_wide}
use Rattle.entry_log.proofs.ReadStep.{read_step, step_bytes, step_read}
use Rattle.entry_log.specs.ActorText.{actor_text}
use Rattle.entry_log.specs.EffectText.{effect_text}
use Rattle.entry_log.specs.EntryLine.{answer_words, entry_words}
use Rattle.entry_log.specs.IsEntry.{IsActor, IsCode, IsEffect, IsEntry, IsStep}
use Rattle.entry_log.specs.StepText.{step_text}
use Rattle.entry_log.specs.declared.effect.Effect.{Effect}
use Rattle.entry_log.specs.declared.entry.Actor.{Actor}
use Rattle.entry_log.specs.declared.entry.Entry.{Entry}
use Rattle.entry_log.specs.declared.step.Step.{Step}
use Rattle.std.proofs.Common.{◌≡◌, ◌<◌, ◌^◌, ℕ, ℤ, true, List, [], ◌∷◌, ◌++◌, map, codes, decimal, Option, Some, None, IfSome, sym, ◌∙◌, ap, refl, arith}
use Rattle.std.proofs.lemmas.Fmt.{decimal_injective, signed_decimal_injective}
use Rattle.std.proofs.lemmas.List.Elements.{All-head, All-tail}
use Rattle.std.proofs.lemmas.List.Folds.{list_all-append}
use Rattle.std.specs.Fmt.{signed_decimal}
use Rattle.std.specs.List.{All, list_all}

actor_same : (a b : Actor) → IsActor a → IsActor b → actor_text a ≡ actor_text b → a ≡ b
actor_same a b known_a known_b same = sym (actor_read a known_a) ∙ ap read_actor same ∙ actor_read b known_b

step_same : (a b : Step) → IsStep a → IsStep b → step_text a ≡ step_text b → a ≡ b
step_same a b known_a known_b same = sym (step_read a known_a) ∙ ap read_step same ∙ step_read b known_b

effect_same : (a b : Effect) → IsEffect a → IsEffect b → effect_text a ≡ effect_text b → a ≡ b
effect_same a b known_a known_b same = sym (effect_read a known_a) ∙ ap read_effect same ∙ effect_read b known_b

answer_same : (a b : Option ℤ) → IfSome a IsCode → IfSome b IsCode → answer_words a ≡ answer_words b → a ≡ b
unfolding answer_words
answer_same None None known_a known_b same = refl
answer_same None (Some n) known_a known_b same = cc
answer_same (Some m) None known_a known_b same = cc
answer_same (Some m) (Some n) known_a known_b same =
    let text : signed_decimal m ≡ signed_decimal n = cc in
    ap Some (signed_decimal_injective m n (fits_wide m known_a) (fits_wide n known_b) text)

-- what follows the step: the effects, and then the answer
pub record SameTail (es fs : List Effect) (a b : Option ℤ) : Type 0 where
  pub effects : es ≡ fs
  pub answer : a ≡ b

no_effect : (a : Option ℤ) (f : Effect) (rest : List (List ℕ)) → IsEffect f → answer_words a ≡ effect_text f ∷ rest → ⊥
unfolding answer_words
no_effect None f rest known same = cc
no_effect (Some n) f rest known same = let first : effect_text f ≡ codes "=" = cc in effect_not_answer f known first

tail_same : (es fs : List Effect) (a b : Option ℤ) → All IsEffect es → All IsEffect fs → IfSome a IsCode
    → IfSome b IsCode → map effect_text es ++ answer_words a ≡ map effect_text fs ++ answer_words b → SameTail es fs a b
tail_same [] [] a b known_es known_fs known_a known_b same = record { effects = refl; answer = answer_same a b known_a known_b same }
tail_same [] (f ∷ fs) a b known_es known_fs known_a known_b same =
    absurd (no_effect a f (map effect_text fs ++ answer_words b) (All-head IsEffect f fs known_fs) same)
tail_same (e ∷ es) [] a b known_es known_fs known_a known_b same =
    absurd (no_effect b e (map effect_text es ++ answer_words a) (All-head IsEffect e es known_es) (sym same))
tail_same (e ∷ es) (f ∷ fs) a b known_es known_fs known_a known_b same =
    let head : effect_text e ≡ effect_text f = cc in
    let more : map effect_text es ++ answer_words a ≡ map effect_text fs ++ answer_words b = cc in
    let rest = tail_same es fs a b (All-tail IsEffect e es known_es) (All-tail IsEffect f fs known_fs) known_a known_b more in
    let first : e ≡ f = effect_same e f (All-head IsEffect e es known_es) (All-head IsEffect f fs known_fs) head in
    let effects : es ≡ fs = rest.effects in
    record { effects = cc; answer = rest.answer }

built : (a b : Entry) → a.place ≡ b.place → a.actor ≡ b.actor → a.step ≡ b.step → a.effects ≡ b.effects → a.answer ≡ b.answer → a ≡ b
built a b place actor step effects answer = λ i. record { place = place i; actor = actor i; step = step i; effects = effects i; answer = answer i }

pub entry_same : (a b : Entry) → IsEntry a → IsEntry b → entry_words a ≡ entry_words b → a ≡ b
unfolding entry_words
entry_same a b known_a known_b same =
    let place : decimal a.place ≡ decimal b.place = cc in
    let actor : actor_text a.actor ≡ actor_text b.actor = cc in
    let step : step_text a.step ≡ step_text b.step = cc in
    let more : map effect_text a.effects ++ answer_words a.answer ≡ map effect_text b.effects ++ answer_words b.answer = cc in
    let rest = tail_same a.effects b.effects a.answer b.answer known_a.effects known_b.effects known_a.answer known_b.answer more in
    let wide_a : a.place < 2 ^ 64 = (let h = known_a.place in omega arith) in
    let wide_b : b.place < 2 ^ 64 = (let h = known_b.place in omega arith) in
    built a b (decimal_injective a.place b.place wide_a wide_b place)
    (actor_same a.actor b.actor known_a.actor known_b.actor actor)
    (step_same a.step b.step known_a.step known_b.step step) rest.effects rest.answer

effects_bytes : (es : List Effect) → All IsEffect es → list_all (list_all word_byte) (map effect_text es) ≡ true
effects_bytes [] known = refl
effects_bytes (e ∷ es) known = rw (effect_bytes e (All-head IsEffect e es known), effects_bytes es (All-tail IsEffect e es known)) refl

answer_bytes : (a : Option ℤ) → IfSome a IsCode → list_all (list_all word_byte) (answer_words a) ≡ true
unfolding answer_words
answer_bytes None known = refl
answer_bytes (Some n) known = rw (field_is_word (signed_decimal n) (name_is_field (signed_decimal n) (signed_name n (fits_wide n known)))) refl

pub entry_bytes : (e : Entry) → IsEntry e → list_all (list_all word_byte) (entry_words e) ≡ true
unfolding entry_words
entry_bytes e known =
    let wide : e.place < 2 ^ 64 = (let h = known.place in omega arith) in
    rw (
      field_is_word (decimal e.place) (name_is_field (decimal e.place) (decimal_name e.place wide)),
      actor_bytes e.actor known.actor,
      step_bytes e.step known.step,
      list_all-append (list_all word_byte) (map effect_text e.effects) (answer_words e.answer),
      effects_bytes e.effects known.effects,
      answer_bytes e.answer known.answer,
    ) refl
