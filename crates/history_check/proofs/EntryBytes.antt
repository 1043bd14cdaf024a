-- Which bytes stand in the words of an entry: in all of them no space and no line feed, and no colon but in effects. Of
-- the entry it is only known that the name in its step is name text.
use Rattle.entry_log.specs.ActorText.{actor_text}
use Rattle.entry_log.specs.EffectText.{effect_fields, effect_text, lock_text, status_text}
use Rattle.entry_log.specs.EntryLine.{answer_words, entry_words}
use Rattle.entry_log.specs.HolderText.{holder_text}
use Rattle.entry_log.specs.IsEntry.{IsStep}
use Rattle.entry_log.specs.PartText.{part_text}
use Rattle.entry_log.specs.StepText.{step_text, step_words}
use Rattle.entry_log.specs.declared.effect.Effect.{Effect}
use Rattle.entry_log.specs.declared.effect.Effect.TheVariants.{Plus, Minus, Dead, Swept, Seek, Missed, Accept, Finish, Signal, Take, Give, Terminated, Doom, Bury}
use Rattle.entry_log.specs.declared.effect.Holder.{Holder}
use Rattle.entry_log.specs.declared.effect.Holder.TheVariants.{InProcess, InThread, Temp, Own, Link, Message, Kernel}
use Rattle.entry_log.specs.declared.effect.LockNo.{LockNo}
use Rattle.entry_log.specs.declared.effect.LockNo.TheVariants.{Object, Fast}
use Rattle.entry_log.specs.declared.effect.StatusNo.{StatusNo}
use Rattle.entry_log.specs.declared.effect.StatusNo.TheVariants.{Async, Sync}
use Rattle.entry_log.specs.declared.entry.Actor.{Actor}
use Rattle.entry_log.specs.declared.entry.Actor.TheVariants.{Thread, Irq, Idfc, Tick, Idle}
use Rattle.entry_log.specs.declared.entry.Entry.{Entry}
use Rattle.entry_log.specs.declared.step.Part.{Part}
use Rattle.entry_log.specs.declared.step.Part.TheVariants as part
use Rattle.entry_log.specs.declared.step.Step.{Step}
use Rattle.entry_log.specs.declared.step.Step.TheVariants.{Of, RunOf, MoveOf}
use Rattle.std.proofs.Common.{◌≡◌, ℕ, ℤ, true, List, [], ◌∷◌, ◌++◌, map, codes, decimal, Option, Some, None, refl}
use Rattle.std.proofs.lemmas.List.Folds.{list_all-append}
use Rattle.std.specs.List.{list_all}
use Rattle.sym_base.specs.WordText.{word_text}
use Rattle.sym_base.specs.declared.word.Word.{Word}
use Rattle.sym_base.specs.declared.word.Word.TheVariants as word
use Rattle.history_check.proofs.Bytes.{all_two, decimal_field, field_byte, field_is_word, fields_are_words, joined_all, name_is_field, signed_field, word_byte}

-- steps
word_field : (w : Word) → list_all field_byte (word_text w) ≡ true
unfolding word_text
word_field word.Create = refl
word_field w = refl

part_field : (p : Part) → list_all field_byte (part_text p) ≡ true
unfolding part_text
part_field part.Seek = refl
part_field p = refl

step_fields : (step : Step) → IsStep step → list_all (list_all field_byte) (step_words step) ≡ true
unfolding step_words IsStep
step_fields (Of w p) known = rw (word_field w, part_field p) refl
step_fields (RunOf name) known = rw (name_is_field name known) refl
step_fields (MoveOf name) known = rw (name_is_field name known) refl
step_fields other known = refl

pub step_field : (step : Step) → IsStep step → list_all field_byte (step_text step) ≡ true
unfolding step_text
step_field step known = joined_all field_byte 46 (step_words step) refl (step_fields step known)

-- actors
numbered : (letters : List ℕ) (n : ℕ) → list_all field_byte letters ≡ true → list_all field_byte (letters ++ decimal n) ≡ true
numbered letters n shown = all_two field_byte letters (decimal n) shown (decimal_field n)

pub actor_field : (actor : Actor) → list_all field_byte (actor_text actor) ≡ true
unfolding actor_text
actor_field (Thread thread) = numbered (codes "t") thread.0 refl
actor_field (Irq number) = numbered (codes "irq") number refl
actor_field Idfc = refl
actor_field Tick = refl
actor_field Idle = refl

-- effects
indexed : (letters : List ℕ) (n i : ℕ) → list_all field_byte letters ≡ true → list_all (list_all field_byte) ((letters ++ decimal n) ∷ decimal i ∷ []) ≡ true
indexed letters n i shown = rw (numbered letters n shown, decimal_field i) refl

holder_field : (holder : Holder) → list_all field_byte (holder_text holder) ≡ true
unfolding holder_text
holder_field (InProcess process index) =
    joined_all field_byte 46 ((codes "p" ++ decimal process.0) ∷ decimal index ∷ []) refl
    (indexed (codes "p") process.0 index refl)
holder_field (InThread thread index) =
    joined_all field_byte 46 ((codes "t" ++ decimal thread.0) ∷ decimal index ∷ []) refl
    (indexed (codes "t") thread.0 index refl)
holder_field (Temp thread) = numbered (codes "tmp") thread.0 refl
holder_field (Own thread) = numbered (codes "own") thread.0 refl
holder_field (Link object) = numbered (codes "lnk") object.0 refl
holder_field (Message message) = numbered (codes "msg") message.0 refl
holder_field Kernel = refl

status_field : (status : StatusNo) → list_all field_byte (status_text status) ≡ true
unfolding status_text
status_field (Async number) = decimal_field number
status_field Sync = refl

lock_field : (lock : LockNo) → list_all field_byte (lock_text lock) ≡ true
unfolding lock_text
lock_field (Object object) = decimal_field object.0
lock_field (Fast number) = numbered (codes "f") number refl

reference_fields : (sign : List ℕ) (holder : Holder) (n : ℕ) → list_all field_byte sign ≡ true
    → list_all (list_all field_byte) ((sign ++ holder_text holder) ∷ decimal n ∷ []) ≡ true
reference_fields sign holder n shown = rw (all_two field_byte sign (holder_text holder) shown (holder_field holder), decimal_field n) refl

each_field : (effect : Effect) → list_all (list_all field_byte) (effect_fields effect) ≡ true
unfolding effect_fields
each_field (Plus holder object) = reference_fields (codes "+") holder object.0 refl
each_field (Minus holder object) = reference_fields (codes "-") holder object.0 refl
each_field (Dead object) = rw (decimal_field object.0) refl
each_field (Swept object) = rw (decimal_field object.0) refl
each_field (Seek object) = rw (decimal_field object.0) refl
each_field (Missed object) = rw (decimal_field object.0) refl
each_field (Accept message) = rw (decimal_field message.0) refl
each_field (Finish message code) = rw (decimal_field message.0, signed_field code) refl
each_field (Signal thread status code) = rw (decimal_field thread.0, status_field status, signed_field code) refl
each_field (Take thread lock) = rw (decimal_field thread.0, lock_field lock) refl
each_field (Give thread lock) = rw (decimal_field thread.0, lock_field lock) refl
each_field (Terminated server) = rw (decimal_field server.0) refl
each_field (Doom thread) = rw (decimal_field thread.0) refl
each_field (Bury thread) = rw (decimal_field thread.0) refl

effect_word : (effect : Effect) → list_all word_byte (effect_text effect) ≡ true
unfolding effect_text
effect_word effect = joined_all word_byte 58 (effect_fields effect) refl (fields_are_words (effect_fields effect) (each_field effect))

effect_words : (effects : List Effect) → list_all (list_all word_byte) (map effect_text effects) ≡ true
effect_words [] = refl
effect_words (effect ∷ effects) = rw (effect_word effect, effect_words effects) refl

-- answers
pub answer_fields : (answer : Option ℤ) → list_all (list_all field_byte) (answer_words answer) ≡ true
unfolding answer_words
answer_fields None = refl
answer_fields (Some number) = rw (signed_field number) refl

-- all words
pub entry_bytes : (e : Entry) → IsStep e.step → list_all (list_all word_byte) (entry_words e) ≡ true
unfolding entry_words
entry_bytes e known =
    rw (
      field_is_word (decimal e.place) (decimal_field e.place),
      field_is_word (actor_text e.actor) (actor_field e.actor),
      field_is_word (step_text e.step) (step_field e.step known),
      list_all-append (list_all word_byte) (map effect_text e.effects) (answer_words e.answer),
      effect_words e.effects,
      fields_are_words (answer_words e.answer) (answer_fields e.answer),
    ) refl
