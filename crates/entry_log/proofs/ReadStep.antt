-- A step is read again from its text.
use Rattle.entry_log.proofs.Bytes.{both, field_byte, word_byte, all_free, field_is_word, joined_all, name_is_field}
use Rattle.entry_log.proofs.Pieces.{pieces, pieces_joined}
use Rattle.entry_log.proofs.ReadPart.{part_of, part_again, part_name, part_not_run, part_not_move}
use Rattle.entry_log.proofs.ReadWord.{word_of, word_again, word_name}
use Rattle.entry_log.specs.IsEntry.{IsStep}
use Rattle.entry_log.specs.Joined.{joined}
use Rattle.entry_log.specs.StepText.{step_text, step_words}
use Rattle.entry_log.specs.declared.step.Step.{Step}
use Rattle.entry_log.specs.declared.step.Step.TheVariants.{Of, RunOf, MoveOf, Drop, Sweep, Finish, Detach, Stop, Free, Shut, Tell, Clean, Flush, End, Bury, Run, Turn, Wait}
use Rattle.std.proofs.Common.{◌≡◌, ◌<◌, ℕ, true, List, [], ◌∷◌, length, codes, lit<, unwrap_or, if◌then◌else◌, refl}
use Rattle.std.specs.List.{find, list_all}
use Rattle.std.specs.Str.{bytes_eq}
use Rattle.sym_base.specs.NameText.{name_byte}

single_steps : List Step
single_steps = Drop ∷ Sweep ∷ Finish ∷ Detach ∷ Stop ∷ Free ∷ Shut ∷ Tell ∷ Clean ∷ Flush ∷ End ∷ Bury ∷ Run ∷ Turn ∷ Wait ∷ []

abbrev first_word : List (List ℕ) → List ℕ
first_word [] = []
first_word (word ∷ words) = word

-- the step of one or two words
pub step_of : List (List ℕ) → Step
unfolding single_steps step_words
step_of (first ∷ second ∷ []) =
    if bytes_eq second (codes "run") then RunOf first else
    (if bytes_eq second (codes "move") then MoveOf first else Of (word_of first) (part_of second))
step_of words = unwrap_or (find (λ step. bytes_eq (first_word (step_words step)) (first_word words)) single_steps) Drop

step_again : (step : Step) → step_of (step_words step) ≡ step
unfolding step_of single_steps step_words
step_again (Of word part) = rw (part_not_run part, part_not_move part, word_again word, part_again part) refl
step_again other = refl

step_names : (step : Step) → IsStep step → list_all (list_all name_byte) (step_words step) ≡ true
unfolding step_words IsStep
step_names (Of word part) known = rw (word_name word, part_name part) refl
step_names (RunOf name) known = rw known refl
step_names (MoveOf name) known = rw known refl
step_names other known = refl

step_some : (step : Step) → 0 < length (step_words step)
unfolding step_words
step_some (Of word part) = lit< tt
step_some other = lit< tt

-- the step of a text
pub read_step : List ℕ → Step
read_step text = step_of (pieces 46 text)

pub step_read : (step : Step) → IsStep step → read_step (step_text step) ≡ step
unfolding read_step step_text
step_read step known =
    rw (pieces_joined 46 (step_words step) (step_some step)
    (all_free name_byte 46 (step_words step) refl (step_names step known))) (step_again step)

names_are_fields : (words : List (List ℕ)) → list_all (list_all name_byte) words ≡ true → list_all (list_all field_byte) words ≡ true
names_are_fields [] names = refl
names_are_fields (word ∷ words) names =
    let h = both (list_all name_byte word) (list_all (list_all name_byte) words) names in
    rw (name_is_field word h.0, names_are_fields words h.1) refl

pub step_bytes : (step : Step) → IsStep step → list_all word_byte (step_text step) ≡ true
unfolding step_text
step_bytes step known =
    field_is_word (joined 46 (step_words step))
    (joined_all field_byte 46 (step_words step) refl (names_are_fields (step_words step) (step_names step known)))
