-- The first words of a line.
use Rattle.std.proofs.Common.{◌≡◌, ℕ, ◌<◌, true, false, List, [], ◌∷◌, length, refl, sym, ◌∙◌, arith, Some, None}
use Rattle.script_types.specs.SourceText.{words_of, is_skipped}
use Rattle.std.proofs.lemmas.Bool.Decides.{nat_tests}
use Rattle.std.specs.Prelude.{◌==◌}
use Rattle.script_words.specs.Fields.{cut_of}
use Rattle.script_words.specs.Pieces.{one_word}
use Rattle.script_words.proofs.SourceLines.{begins_line, word_cut, word_alone}

no_bytes : (word : List ℕ) → length word ≡ 0 → one_word word ≡ []
no_bytes [] h = refl
no_bytes (b ∷ bs) h = absurd (omega arith)

some_bytes : (word : List ℕ) → 0 < length word → one_word word ≡ word ∷ []
some_bytes [] h = absurd (omega arith)
some_bytes (b ∷ bs) h = refl

-- nothing has no words
pub nothing : words_of [] ≡ []
unfolding words_of
nothing = refl

-- a word stands in front, or a space
pub word_found : (line word rest : List ℕ) → Some (word, rest) ≡ cut_of 32 line → 0 < length word → words_of line ≡ word ∷ words_of rest
word_found line word rest cut some = word_cut line word rest cut ∙ rw (some_bytes word some) refl

pub word_skipped : (line word rest : List ℕ) → Some (word, rest) ≡ cut_of 32 line → length word ≡ 0 → words_of rest ≡ words_of line
word_skipped line word rest cut none = sym (word_cut line word rest cut ∙ rw (no_bytes word none) refl)

pub word_last : (line : List ℕ) → None ≡ cut_of 32 line → 0 < length line → words_of line ≡ line ∷ words_of []
word_last line cut some = word_alone line cut ∙ rw (some_bytes line some, nothing) refl

pub no_word : (line : List ℕ) → None ≡ cut_of 32 line → length line ≡ 0 → words_of line ≡ []
no_word line cut none = word_alone line cut ∙ no_bytes line none

-- a line that begins as a comment is one
not_space : (b : ℕ) → (b == 35) ≡ true → (b == 32) ≡ false
not_space b h = grind (arith, nat_tests)

pub comment_line : (line : List ℕ) → is_skipped (line ∷ []) ≡ true → is_skipped (words_of line) ≡ true
comment_line [] h = absurd (cc)
comment_line (b ∷ bs) h = let words = begins_line b bs (not_space b h) in rw words.2 h
