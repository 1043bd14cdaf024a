-- Printed words and lines are cut again where they were joined.
use Rattle.std.proofs.Common.{◌≡◌, ℕ, ◌*◌, ◌<◌, ◌≤◌, Bool, true, List, [], ◌∷◌, ◌++◌, append_assoc, length, length-append, refl, ap, ◌∙◌, arith}
use Rattle.std.proofs.lemmas.Bool.{le-leb, leb-true, not-true}
use Rattle.std.proofs.lemmas.Bool.Decides.{nat_tests}
use Rattle.std.proofs.lemmas.List.{append-nil}
use Rattle.std.specs.List.{AllByRecursion, filter, flat_map, list_all}
use Rattle.std.specs.Prelude.{◌==◌, ◌&&◌, nat_le, not}
use Rattle.script_print.specs.CanonicalText.{spaced}
use Rattle.script_words.proofs.Steps.{both}
use Rattle.script_types.specs.SourceText.{split, without_empty_end, words_of, text_lines, is_empty, is_printed}
use Rattle.script_types.specs.Source.{IsClean}

-- a word that may be printed: some bytes of 33 to 126, and at most 16
abbrev pub is_visible : ℕ → Bool
is_visible byte = nat_le 33 byte && nat_le byte 126

abbrev pub is_plain : List ℕ → Bool
is_plain word = not (is_empty word) && list_all is_visible word && nat_le (length word) 16

record Plain (word : List ℕ) : Type 0 where
  some : not (is_empty word) ≡ true
  visible : list_all is_visible word ≡ true
  short : length word ≤ 16

plain : (word : List ℕ) → is_plain word ≡ true → Plain word
plain word h =
    let parts = both (not (is_empty word) && list_all is_visible word) (nat_le (length word) 16) h in
    let front = both (not (is_empty word)) (list_all is_visible word) parts.0 in
    record { some = front.0; visible = front.1; short = leb-true (length word) 16 parts.1 }

abbrev pub ArePlain : List (List ℕ) → Type 0
ArePlain words = AllByRecursion (λ (w : List ℕ). is_plain w ≡ true) words

-- none of the bytes is this one
abbrev is_free : ℕ → List ℕ → Bool
is_free at bytes = list_all (λ byte. not (byte == at)) bytes

split_free : (at : ℕ) (bytes : List ℕ) → is_free at bytes ≡ true → split (λ byte. byte == at) bytes ≡ bytes ∷ []
split_free at [] h = refl
split_free at (b ∷ bs) h =
    let parts = both (not (b == at)) (is_free at bs) h in
    rw (not-true (b == at) parts.0, split_free at bs parts.1) refl

split_at : (at : ℕ) (bytes rest : List ℕ) → is_free at bytes ≡ true → split (λ byte. byte == at) (bytes ++ at ∷ rest) ≡ bytes ∷ split (λ byte. byte == at) rest
split_at at [] rest h = let here : (at == at) ≡ true = grind (arith, nat_tests) in rw here refl
split_at at (b ∷ bs) rest h =
    let parts = both (not (b == at)) (is_free at bs) h in
    rw (not-true (b == at) parts.0, split_at at bs rest parts.1) refl

-- words
no_space : (b : ℕ) → is_visible b ≡ true → not (b == 32) ≡ true
no_space b h = grind (arith, nat_tests)

visible_free : (word : List ℕ) → list_all is_visible word ≡ true → is_free 32 word ≡ true
visible_free [] h = refl
visible_free (b ∷ bs) h = let parts = both (is_visible b) (list_all is_visible bs) h in rw (no_space b parts.0, visible_free bs parts.1) refl

spaced_cut : (word : List ℕ) (words : List (List ℕ)) → is_plain word ≡ true → ArePlain words → split (λ byte. byte == 32) (spaced (word ∷ words)) ≡ word ∷ words
spaced_cut word [] h all = rw append-nil (split_free 32 word (visible_free word (plain word h).visible))
spaced_cut word (next ∷ words) h all =
    split_at 32 word (spaced (next ∷ words)) (visible_free word (plain word h).visible)
    ∙ ap (λ (ws : List (List ℕ)). word ∷ ws) (spaced_cut next words all.0 all.1)

all_kept : (words : List (List ℕ)) → ArePlain words → filter (λ w. not (is_empty w)) words ≡ words
all_kept [] all = refl
all_kept (word ∷ words) all = rw ((plain word all.0).some, all_kept words all.1) refl

pub words_again : (words : List (List ℕ)) → 0 < length words → ArePlain words → words_of (spaced words) ≡ words
unfolding words_of
words_again [] some all = absurd (omega arith)
words_again (word ∷ words) some all = ap (filter (λ w. not (is_empty w))) (spaced_cut word words all.0 all.1) ∙ all_kept (word ∷ words) all

-- printed words are clean
visible_printed : (b : ℕ) → is_visible b ≡ true → (nat_le 32 b && nat_le b 126) ≡ true
visible_printed b h = grind (arith, nat_tests)

word_printed : (word rest : List ℕ) → list_all is_visible word ≡ true → is_printed rest ≡ true → is_printed (word ++ rest) ≡ true
word_printed [] rest h later = later
word_printed (b ∷ bs) rest h later =
    let parts = both (is_visible b) (list_all is_visible bs) h in
    rw (visible_printed b parts.0, word_printed bs rest parts.1 later) refl

more_printed : (words : List (List ℕ)) → ArePlain words → is_printed (flat_map (λ (w : List ℕ). 32 ∷ w) words) ≡ true
more_printed [] all = refl
more_printed (word ∷ words) all = word_printed word (flat_map (λ (w : List ℕ). 32 ∷ w) words) (plain word all.0).visible (more_printed words all.1)

words_printed : (words : List (List ℕ)) → ArePlain words → is_printed (spaced words) ≡ true
words_printed [] all = refl
words_printed (word ∷ words) all = word_printed word (flat_map (λ (w : List ℕ). 32 ∷ w) words) (plain word all.0).visible (more_printed words all.1)

pub more_short : (words : List (List ℕ)) → ArePlain words → length (flat_map (λ (w : List ℕ). 32 ∷ w) words) ≤ 17 * length words
more_short [] all = omega arith
more_short (word ∷ words) all =
    let first = (plain word all.0).short in
    let later = more_short words all.1 in
    simp length-append (omega arith)

pub words_clean : (words : List (List ℕ)) → length (spaced words) ≤ 200 → ArePlain words → IsClean (spaced words)
words_clean words few all = record { printed = words_printed words all; short = le-leb (length (spaced words)) 200 few }

-- lines
no_feed : (b : ℕ) → (nat_le 32 b && nat_le b 126) ≡ true → not (b == 10) ≡ true
no_feed b h = grind (arith, nat_tests)

printed_free : (line : List ℕ) → is_printed line ≡ true → is_free 10 line ≡ true
printed_free [] h = refl
printed_free (b ∷ bs) h = let parts = both (nat_le 32 b && nat_le b 126) (is_printed bs) h in rw (no_feed b parts.0, printed_free bs parts.1) refl

lines_cut : (lines : List (List ℕ)) → AllByRecursion IsClean lines
    → split (λ byte. byte == 10) (flat_map (λ (l : List ℕ). l ++ 10 ∷ []) lines) ≡ lines ++ [] ∷ []
lines_cut [] all = refl
lines_cut (l ∷ ls) all =
    rw (append_assoc l (10 ∷ []) (flat_map (λ (l : List ℕ). l ++ 10 ∷ []) ls))
    (split_at 10 l (flat_map (λ (l : List ℕ). l ++ 10 ∷ []) ls) (printed_free l all.0.printed))
    ∙ ap (λ (xs : List (List ℕ)). l ∷ xs) (lines_cut ls all.1)

end_taken : (lines : List (List ℕ)) → without_empty_end (lines ++ [] ∷ []) ≡ lines
end_taken ([] ∷ next ∷ ls) = ap (λ (xs : List (List ℕ)). [] ∷ xs) (end_taken (next ∷ ls))
end_taken ((b ∷ bs) ∷ next ∷ ls) = ap (λ (xs : List (List ℕ)). (b ∷ bs) ∷ xs) (end_taken (next ∷ ls))
end_taken _ = refl

pub lines_again : (lines : List (List ℕ)) → AllByRecursion IsClean lines → text_lines (flat_map (λ (l : List ℕ). l ++ 10 ∷ []) lines) ≡ lines
unfolding text_lines
lines_again lines all = ap without_empty_end (lines_cut lines all) ∙ end_taken lines
