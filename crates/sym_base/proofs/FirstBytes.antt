-- The words that begin with a byte, among all.
use Rattle.std.proofs.Common.{◌≡◌, ℕ, false, ◌<◌, List, [], ◌∷◌, length, get_or, refl, sym, subst, ap, arith, ◌∙◌, Option, None}
use Rattle.std.specs.List.{find}
use Rattle.std.specs.Prelude.{◌==◌}
use Rattle.std.specs.Str.{bytes_eq}
use Rattle.sym_base.specs.WordText.{all_words, word_of, word_text}

-- the first of some whose text a word is
abbrev pub first_of : {A : Type 0} → (A → List ℕ) → List A → List ℕ → Option A
first_of text among word = find (λ a. bytes_eq word (text a)) among

-- where the word's first byte is known, it is among those with this byte
pub at_byte : {A : Type 0} (text : A → List ℕ) (all : List A) {first : ℕ} {word : List ℕ} {found : Option A}
    (byte : ℕ) (among : List A) → first ≡ byte → found ≡ first_of text among word
    → ((rest : List ℕ) → first_of text among (byte ∷ rest) ≡ first_of text all (byte ∷ rest)) → (rest : List ℕ)
    → word ≡ first ∷ rest → found ≡ first_of text all word
at_byte text all {first} {word} {found} byte among is h same rest begins =
    let is_all : word ≡ byte ∷ rest = begins ∙ ap (λ (b : ℕ). b ∷ rest) is in
    subst (λ (w : List ℕ). found ≡ first_of text among w → found ≡ first_of text all w) (sym is_all) (λ front. front ∙ same rest) h

-- a word that isn't empty is its first byte and others
pub by_first : {C : Type 0} (word : List ℕ) (first : ℕ) → 0 < length word → first ≡ get_or word 0 0
    → ((rest : List ℕ) → word ≡ first ∷ rest → C) → C
by_first [] first some is h = absurd (omega arith)
by_first (b ∷ bs) first some is h = h bs (ap (λ (c : ℕ). c ∷ bs) (sym is))

-- and one that is has no byte
pub is_empty : (word : List ℕ) → length word < 1 → word ≡ []
is_empty [] none = refl
is_empty (b ∷ bs) none = absurd (omega arith)

-- no instruction's word is empty
pub nothing_begins : (text : List ℕ) → length text < 1 → None ≡ word_of text
unfolding word_of word_text
nothing_begins text none = ap (first_of word_text all_words) (sym (is_empty text none))

-- none begins with another byte
none_of : (first : ℕ) → (first == 99) ≡ false → (first == 100) ≡ false → (first == 101) ≡ false → (first == 102) ≡ false
    → (first == 107) ≡ false → (first == 108) ≡ false → (first == 111) ≡ false → (first == 112) ≡ false
    → (first == 113) ≡ false → (first == 114) ≡ false → (first == 115) ≡ false → (first == 116) ≡ false
    → (first == 117) ≡ false → (first == 119) ≡ false
    → (rest : List ℕ) → None ≡ first_of word_text all_words (first ∷ rest)
unfolding word_text
none_of first not_c not_d not_e not_f not_k not_l not_o not_p not_q not_r not_s not_t not_u not_w rest =
    rw (not_c, not_d, not_e, not_f, not_k, not_l, not_o, not_p, not_q, not_r, not_s, not_t, not_u, not_w) refl

pub none_begins : (first : ℕ) (text : List ℕ) → (first == 99) ≡ false → (first == 100) ≡ false → (first == 101) ≡ false
    → (first == 102) ≡ false → (first == 107) ≡ false → (first == 108) ≡ false → (first == 111) ≡ false
    → (first == 112) ≡ false → (first == 113) ≡ false → (first == 114) ≡ false → (first == 115) ≡ false
    → (first == 116) ≡ false → (first == 117) ≡ false → (first == 119) ≡ false
    → (rest : List ℕ) → text ≡ first ∷ rest → None ≡ word_of text
unfolding word_of
none_begins first text not_c not_d not_e not_f not_k not_l not_o not_p not_q not_r not_s not_t not_u not_w rest begins =
    none_of first not_c not_d not_e not_f not_k not_l not_o not_p not_q not_r not_s not_t not_u not_w rest ∙ ap (first_of word_text all_words) (sym begins)
