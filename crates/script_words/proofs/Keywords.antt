-- What a first word begins: an instruction, or else a line of its own.
use Rattle.std.proofs.Common.{◌≡◌, ℕ, false, ◌<◌, List, [], ◌∷◌, length, map, refl, sym, ap, ◌∙◌, Option, Some, None}
use Rattle.std.proofs.lemmas.List.Folds.{find-append}
use Rattle.std.specs.List.{find}
use Rattle.std.specs.Option.{option_or}
use Rattle.std.specs.Prelude.{◌==◌, option_map}
use Rattle.std.specs.Str.{bytes_eq}
use Rattle.script_types.specs.Keywords.{keyword_text, keyword_of, line_keywords}
use Rattle.script_types.specs.declared.keyword.Keyword.{Keyword}
use Rattle.script_types.specs.declared.keyword.Keyword.TheVariants as key
use Rattle.script_words.proofs.Steps.{by_test}
use Rattle.sym_base.specs.WordText.{all_words, word_of, word_text}
use Rattle.sym_base.specs.declared.word.Word.{Word}
use Rattle.sym_base.proofs.FirstBytes.{first_of, is_empty}

-- among the words of instructions
among_instrs : (word : List ℕ) (ws : List Word) → first_of keyword_text (map key.Instr ws) word ≡ option_map key.Instr (first_of word_text ws word)
among_instrs word [] = refl
among_instrs word (w ∷ ws) =
    by_test {P = first_of keyword_text (map key.Instr (w ∷ ws)) word ≡ option_map key.Instr (first_of word_text (w ∷ ws) word)}
    (bytes_eq word (word_text w)) (λ e. rw e refl) (λ e. rw e (among_instrs word ws))

-- the words of instructions are tried first
keyword_by : (word : List ℕ) → keyword_of word ≡ option_or (option_map key.Instr (word_of word)) (first_of keyword_text line_keywords word)
unfolding keyword_of word_of
keyword_by word =
    find-append (λ k. bytes_eq word (keyword_text k)) (map key.Instr all_words) line_keywords
    ∙ ap (λ found. option_or found (first_of keyword_text line_keywords word)) (among_instrs word all_words)

pub begins_instr : (word : List ℕ) (w : Word) → Some w ≡ word_of word → ◌≡◌ {A = Option Keyword} (Some (key.Instr w)) (keyword_of word)
begins_instr word w is =
    ap (λ found. option_or (option_map key.Instr found) (first_of keyword_text line_keywords word)) is ∙ sym (keyword_by word)

pub begins_line : (word : List ℕ) (found : Option Keyword) → None ≡ word_of word
    → found ≡ first_of keyword_text line_keywords word → found ≡ keyword_of word
begins_line word found none is =
    is ∙ ap (λ instr. option_or (option_map key.Instr instr) (first_of keyword_text line_keywords word)) none ∙ sym (keyword_by word)

-- no word of a line is empty
pub nothing_begins : (word : List ℕ) → length word < 1 → None ≡ first_of keyword_text line_keywords word
nothing_begins word none = ap (first_of keyword_text line_keywords) (sym (is_empty word none))

-- none begins with another byte
none_of : (first : ℕ) → (first == 100) ≡ false → (first == 101) ≡ false → (first == 102) ≡ false
    → (first == 103) ≡ false → (first == 105) ≡ false → (first == 107) ≡ false → (first == 112) ≡ false
    → (first == 115) ≡ false → (first == 116) ≡ false
    → (rest : List ℕ) → None ≡ first_of keyword_text line_keywords (first ∷ rest)
none_of first not_d not_e not_f not_g not_i not_k not_p not_s not_t rest =
    rw (not_d, not_e, not_f, not_g, not_i, not_k, not_p, not_s, not_t) refl

pub none_begins : (first : ℕ) (word : List ℕ) → (first == 100) ≡ false → (first == 101) ≡ false → (first == 102) ≡ false
    → (first == 103) ≡ false → (first == 105) ≡ false → (first == 107) ≡ false → (first == 112) ≡ false
    → (first == 115) ≡ false → (first == 116) ≡ false
    → (rest : List ℕ) → word ≡ first ∷ rest → None ≡ first_of keyword_text line_keywords word
none_begins first word not_d not_e not_f not_g not_i not_k not_p not_s not_t rest begins =
    none_of first not_d not_e not_f not_g not_i not_k not_p not_s not_t rest
    ∙ ap (first_of keyword_text line_keywords) (sym begins)
