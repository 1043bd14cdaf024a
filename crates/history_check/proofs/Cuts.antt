-- Texts that are cut at the first of a byte.
use Rattle.script_words.proofs.Splits.{not_true}
use Rattle.script_words.proofs.Steps.{both, some_is}
use Rattle.script_words.specs.Fields.{cut_of}
use Rattle.std.proofs.Common.{◌≡◌, ℕ, true, not, nat_eq, List, [], ◌∷◌, ◌++◌, Option, Some, None, refl, sym, ap, ◌∙◌, append-nil, eq-eqb}
use Rattle.std.specs.Prelude.{option_map}
use Rattle.history_check.proofs.Bytes.{free}

-- what is put before both parts of a cut
abbrev pub before_cut : List ℕ → List ℕ × List ℕ → List ℕ × List ℕ
before_cut x parts = (x ++ parts.0, parts.1)

map_front : (b : ℕ) (bs : List ℕ) (found : Option (List ℕ × List ℕ))
    → option_map (λ (parts : List ℕ × List ℕ). (b ∷ parts.0, parts.1)) (option_map (before_cut bs) found) ≡ option_map (before_cut (b ∷ bs)) found
map_front b bs None = refl
map_front b bs (Some parts) = refl

map_same : (found : Option (List ℕ × List ℕ)) → found ≡ option_map (before_cut []) found
map_same None = refl
map_same (Some parts) = refl

-- bytes that aren't it stand before the cut
pub cut_behind : (c : ℕ) (x rest : List ℕ) → free c x ≡ true → cut_of c (x ++ rest) ≡ option_map (before_cut x) (cut_of c rest)
cut_behind c [] rest none = map_same (cut_of c rest)
cut_behind c (b ∷ bs) rest none =
    let h = both (not (nat_eq b c)) (free c bs) none in
    rw (not_true (nat_eq b c) h.0, cut_behind c bs rest h.1) (map_front b bs (cut_of c rest))

cut_here : (c : ℕ) (rest : List ℕ) → cut_of c (c ∷ rest) ≡ Some ([], rest)
cut_here c rest = rw (eq-eqb c c refl) refl

pub cut_first : (c : ℕ) (x rest : List ℕ) → free c x ≡ true → cut_of c (x ++ c ∷ rest) ≡ Some (x, rest)
cut_first c x rest none =
    cut_behind c x (c ∷ rest) none
    ∙ ap (option_map (before_cut x)) (cut_here c rest)
    ∙ ap (λ (xs : List ℕ). Some (xs, rest)) (append-nil x)

-- equal texts are cut equally
pub record SameParts (x y s t : List ℕ) : Type 0 where
  pub front : x ≡ y
  pub behind : s ≡ t

pub same_parts : (c : ℕ) (x y s t : List ℕ) → free c x ≡ true → free c y ≡ true → x ++ c ∷ s ≡ y ++ c ∷ t → SameParts x y s t
same_parts c x y s t one other same =
    let parts : ◌≡◌ {A = List ℕ × List ℕ} (x, s) (y, t) = some_is (x, s) (y, t) (sym (cut_first c x s one) ∙ ap (cut_of c) same ∙ cut_first c y t other) in
    record { front = ap (λ (p : List ℕ × List ℕ). p.0) parts; behind = ap (λ (p : List ℕ × List ℕ). p.1) parts }
