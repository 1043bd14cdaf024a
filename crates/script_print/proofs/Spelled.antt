-- The words that an instruction is printed as are those of its line.
use Rattle.std.proofs.Common.{◌≡◌, ℕ, true, List, [], ◌∷◌, ◌++◌, map, refl, sym, ap, ◌∙◌}
use Rattle.std.proofs.lemmas.Bool.{eqb-true}
use Rattle.std.proofs.lemmas.List.{append-nil}
use Rattle.std.specs.Prelude.{◌==◌, decimal}
use Rattle.script_print.specs.CanonicalText.{spaced, source_text}
use Rattle.script_print.specs.PrintedWord.{word_text}
use Rattle.script_print.specs.Spelled.{is_of, value_in, are_of, values_in, is_second, instr_in, are_operands}
use Rattle.script_print.specs.declared.word.Word.{Word}
use Rattle.script_print.specs.declared.word.Word.TheVariants as word
use Rattle.script_types.specs.Forms.{instr_operands}
use Rattle.script_types.specs.Operands.{value_word, value_words}
use Rattle.script_types.specs.SourceWords.{source_words}
use Rattle.script_types.specs.declared.instruction.Instr.{Instr}
use Rattle.script_types.specs.declared.operand.Operand.{Operand}
use Rattle.script_types.specs.declared.operand.Operand.TheVariants as operand
use Rattle.script_types.specs.declared.source_line.SourceLine.TheVariants as line
use Rattle.script_words.proofs.FormsAgain.{instr_words}
use Rattle.script_words.proofs.Steps.{both}
use Rattle.sym_base.specs.WordText.{word_text as first_text}
use Rattle.sym_base.specs.declared.kind.Kind.TheVariants as kind
use Rattle.sym_base.specs.declared.word.Word.{Word as FirstWord}

-- a letter that is this one
lettered : (letter this x : ℕ) → (letter == this) ≡ true → this ∷ decimal x ≡ letter ∷ decimal x
lettered letter this x h = ap (λ (c : ℕ). c ∷ decimal x) (sym (eqb-true letter this h))

of_word : (what : Operand) (w : Word) → is_of what w ≡ true → word_text w ≡ value_word what (value_in what w)
of_word (operand.Number low high) (word.Number n) h = refl
of_word operand.Code (word.Code n) h = refl
of_word (operand.Lettered letter last) (word.Register x) h = lettered letter 114 x h
of_word (operand.Lettered letter last) (word.Message x) h = lettered letter 109 x h
of_word (operand.Lettered letter last) (word.Status x) h = lettered letter 115 x h
of_word (operand.Lettered letter last) (word.DeviceNumber x) h = lettered letter 100 x h
of_word (operand.Lettered letter last) (word.FastMutex x) h = lettered letter 102 x h
of_word operand.Name (word.Named name) h = refl
of_word operand.Category (word.Named name) h = refl
of_word operand.Kind (word.Kinded what) h = refl
of_word operand.Mutex (word.Kinded kind.Mutex) h = refl
of_word operand.Semaphore (word.Kinded kind.Semaphore) h = refl
of_word operand.Slots (word.Slotted s) h = refl
of_word operand.Argument (word.Argument a) h = refl
of_word _ _ h = absurd (cc)

of_words : (operands : List Operand) (words : List Word) → are_of operands words ≡ true
    → map word_text words ≡ value_words operands (values_in operands words)
of_words [] [] h = refl
of_words [] (w ∷ words) h = absurd (cc)
of_words (what ∷ operands) [] h = absurd (cc)
of_words (what ∷ operands) (w ∷ words) h =
    let parts = both (is_of what w) (are_of operands words) h in
    ap (λ (text : List ℕ). text ∷ map word_text words) (of_word what w parts.0)
    ∙ ap (λ (texts : List (List ℕ)). value_word what (value_in what w) ∷ texts) (of_words operands words parts.1)

-- so the line is the instruction's
pub spelled : (what : Instr) (w : FirstWord) (words : List Word) → what ≡ instr_in w words → are_operands w words ≡ true
    → spaced (first_text w ∷ map word_text words) ++ 10 ∷ [] ≡ source_text (line.Instr what)
spelled what w words is kinds =
    let second = is_second w words in
    let operands = instr_operands w second in
    let values = values_in operands words in
    let texts : value_words operands values ++ [] ≡ map word_text words =
    append-nil (value_words operands values) ∙ sym (of_words operands words kinds) in
    let same : source_words (line.Instr what) ≡ first_text w ∷ map word_text words =
    ap (λ (i : Instr). source_words (line.Instr i)) is
    ∙ instr_words second w values
    ∙ ap (λ (rest : List (List ℕ)). first_text w ∷ rest) texts in
    ap (λ (rest : List (List ℕ)). spaced rest ++ 10 ∷ []) (sym same)
