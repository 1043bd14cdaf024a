-- A word is read again from its text.
use Rattle.sym_base.specs.WordText.{word_text, word_of as word_found}
use Rattle.sym_base.specs.declared.word.Word.{Word}
use Rattle.sym_base.specs.declared.word.Word.TheVariants.{Create}
use Rattle.std.proofs.Common.{◌≡◌, ℕ, true, List, unwrap_or, refl}
use Rattle.std.specs.List.{list_all}
use Rattle.sym_base.specs.NameText.{name_byte}

-- the word of a text
pub word_of : List ℕ → Word
word_of text = unwrap_or (word_found text) Create

-- each clause stands for all words that the ones before leave
pub word_again : (word : Word) → word_of (word_text word) ≡ word
unfolding word_of word_found word_text
word_again Create = refl
word_again word = refl

pub word_name : (word : Word) → list_all name_byte (word_text word) ≡ true
unfolding word_text
word_name Create = refl
word_name word = refl
