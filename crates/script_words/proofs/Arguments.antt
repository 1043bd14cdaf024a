-- The parts of an argument between colons, as they are cut.
use Rattle.std.proofs.Common.{◌≡◌, ℕ, Bool, false, List, [], ◌∷◌, refl, sym, ap, ◌∙◌, Some, None}
use Rattle.std.specs.Prelude.{◌&&◌, codes}
use Rattle.std.specs.Str.{bytes_eq}
use Rattle.script_words.specs.Fields.{cut_of}
use Rattle.script_words.specs.Pieces.{three_of}
use Rattle.script_words.specs.Signs.{are_arg_parts, colon_parts}
use Rattle.script_words.proofs.SourceLines.{split_cut, split_alone, split_some}

-- three parts
pub three_by_none : (bytes : List ℕ) → None ≡ cut_of 58 bytes → None ≡ three_of (colon_parts bytes)
three_by_none bytes h = ap three_of (sym (split_alone 58 bytes (sym h)))

pub three_by_one : (bytes one rest : List ℕ) → Some (one, rest) ≡ cut_of 58 bytes → None ≡ cut_of 58 rest → None ≡ three_of (colon_parts bytes)
three_by_one bytes one rest h e = ap three_of (sym (split_cut 58 bytes one rest (sym h) ∙ ap (λ (ps : List (List ℕ)). one ∷ ps) (split_alone 58 rest (sym e))))

pub three_by_three : (bytes one rest two three : List ℕ) → Some (one, rest) ≡ cut_of 58 bytes
    → Some (two, three) ≡ cut_of 58 rest → cut_of 58 three ≡ None
    → Some (one, two, three) ≡ three_of (colon_parts bytes)
three_by_three bytes one rest two three h e f =
    ap three_of (sym (split_cut 58 bytes one rest (sym h)
    ∙ ap (λ (ps : List (List ℕ)). one ∷ ps)
    (split_cut 58 rest two three (sym e) ∙ ap (λ (ps : List (List ℕ)). two ∷ ps) (split_alone 58 three f))))

more_parts : (one two three : List ℕ) (parts : List (List ℕ)) → (parts ≡ [] → ⊥) → None ≡ three_of (one ∷ two ∷ three ∷ parts)
more_parts one two three [] some = absurd (some refl)
more_parts one two three (p ∷ ps) some = refl

pub three_by_more : (bytes one rest two three : List ℕ) (x y : List ℕ) → Some (one, rest) ≡ cut_of 58 bytes
    → Some (two, three) ≡ cut_of 58 rest → cut_of 58 three ≡ Some (x, y) → None ≡ three_of (colon_parts bytes)
three_by_more bytes one rest two three x y h e f =
    more_parts one two x (colon_parts y) (split_some 58 y)
    ∙ ap three_of (sym (split_cut 58 bytes one rest (sym h)
    ∙ ap (λ (ps : List (List ℕ)). one ∷ ps)
    (split_cut 58 rest two three (sym e) ∙ ap (λ (ps : List (List ℕ)). two ∷ ps) (split_cut 58 three x y f))))

-- an argument
pub one_part : (number size : List ℕ → Bool) (word : List ℕ) → None ≡ cut_of 58 word → number word ≡ are_arg_parts number size (colon_parts word)
one_part number size word h = ap (are_arg_parts number size) (sym (split_alone 58 word (sym h)))

not_three : (number size : List ℕ → Bool) (letter : List ℕ) (parts : List (List ℕ)) → (parts ≡ [] → ⊥)
    → None ≡ three_of parts → false ≡ are_arg_parts number size (letter ∷ parts)
not_three number size letter [] some h = absurd (some refl)
not_three number size letter (a ∷ []) some h = refl
not_three number size letter (a ∷ b ∷ []) some h = refl
not_three number size letter (a ∷ b ∷ c ∷ []) some h = absurd (cc)
not_three number size letter (a ∷ b ∷ c ∷ d ∷ ps) some h = refl

pub other_parts : (number size : List ℕ → Bool) (word letter rest : List ℕ) → Some (letter, rest) ≡ cut_of 58 word
    → None ≡ three_of (colon_parts rest) → false ≡ are_arg_parts number size (colon_parts word)
other_parts number size word letter rest h none =
    not_three number size letter (colon_parts rest) (split_some 58 rest) none ∙ ap (are_arg_parts number size) (sym (split_cut 58 word letter rest (sym h)))

pub three_are : (parts : List (List ℕ)) (a b c : List ℕ) → Some (a, b, c) ≡ three_of parts → a ∷ b ∷ c ∷ [] ≡ parts
three_are (x ∷ y ∷ z ∷ []) a b c h =
    let same : ◌≡◌ {A = List ℕ × List ℕ × List ℕ} (a, b, c) (x, y, z) = cc in
    ap (λ (t : List ℕ × List ℕ × List ℕ). t.0 ∷ t.1 ∷ t.2 ∷ []) same
three_are _ a b c h = absurd (cc)

pub four_parts : (number size : List ℕ → Bool) (word letter rest a b c : List ℕ) → Some (letter, rest) ≡ cut_of 58 word
    → Some (a, b, c) ≡ three_of (colon_parts rest)
    → (bytes_eq letter (codes "d") && size a && size b && size c) ≡ are_arg_parts number size (colon_parts word)
four_parts number size word letter rest a b c h three =
    ap (are_arg_parts number size) (ap (λ (ps : List (List ℕ)). letter ∷ ps) (three_are (colon_parts rest) a b c three)
    ∙ sym (split_cut 58 word letter rest (sym h)))
