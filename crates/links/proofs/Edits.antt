-- A list with one element more, and a list of numbers with two of them written.
use Rattle.std.proofs.Common.{◌≡◌, ◌≢◌, ℕ, suc, ◌<◌, ◌≤◌, List, [], ◌∷◌, ◌++◌, length, get_or, set, refl, sym, ◌∙◌, arith, get_or-set_same, get_or-set_other, length-set}
use Rattle.std.proofs.lemmas.List.{get_or_append_left, get_or_push, get_or_past, length_push}

-- the longer list is the other with an element more at a place
pub record IsWith (shorter longer : List ℕ) (x place : ℕ) : Type 0 where
  pub more : length longer ≡ suc (length shorter)
  pub inside : place ≤ length shorter
  pub below : (k d : ℕ) → k < place → get_or longer k d ≡ get_or shorter k d
  pub at : (d : ℕ) → get_or longer place d ≡ x
  pub above : (k d : ℕ) → place ≤ k → get_or longer (suc k) d ≡ get_or shorter k d

-- an element before the others
abbrev pub with_front : (xs : List ℕ) (x : ℕ) → IsWith xs (x ∷ xs) x 0
with_front xs x = record {
  more = refl;
  inside = omega arith;
  below = λ k d none. absurd (omega arith);
  at = λ d. refl;
  above = λ k d _. refl;
}

-- an element behind the others
abbrev pub with_back : (xs : List ℕ) (x : ℕ) → IsWith xs (xs ++ x ∷ []) x (length xs)
with_back xs x = record {
  more = length_push xs x ∙ omega arith;
  inside = omega arith;
  below = λ k d inside. get_or_append_left xs (x ∷ []) d k inside;
  at = λ d. get_or_push xs x d (length xs) refl;
  above = λ k d past. get_or_past (xs ++ x ∷ []) (suc k) d (omega (arith, length_push xs x)) ∙ sym (get_or_past xs k d past);
}

-- two numbers are written at two places, and the others stay
pub record IsRewritten (old new : List ℕ) (i u j v : ℕ) : Type 0 where
  pub sized : length new ≡ length old
  pub first : get_or new i 0 ≡ u
  pub second : get_or new j 0 ≡ v
  pub others : (k : ℕ) → k ≢ i → k ≢ j → get_or new k 0 ≡ get_or old k 0

pub rewritten : (old : List ℕ) (i u j v : ℕ) → i < length old → j < length old → i ≢ j → IsRewritten old (set (set old i u) j v) i u j v
rewritten old i u j v one other apart = record {
  sized = rw (length-set, length-set) refl;
  first = get_or-set_other (set old i u) j i v 0 apart ∙ get_or-set_same old i u 0 one;
  second = get_or-set_same (set old i u) j v 0 (omega (arith, length-set old i u));
  others = λ k not_i not_j. get_or-set_other (set old i u) j k v 0 not_j ∙ get_or-set_other old i k u 0 not_i;
}
