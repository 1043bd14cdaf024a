-- A list without one of its elements.
use Rattle.std.proofs.Common.{◌≡◌, ◌≢◌, ℕ, zero, suc, ◌<◌, ◌≤◌, List, [], ◌∷◌, length, get_or, refl, ap, arith, eq-eqb}
use Rattle.std.proofs.lemmas.Bool.{ne_eqb}
use Rattle.links.specs.Linked.{without}
use Rattle.links.proofs.Edits.{IsWith, with_front}

-- where it doesn't stand nothing goes
pub without_absent : (x : ℕ) (xs : List ℕ) → ((k : ℕ) → k < length xs → get_or xs k x ≢ x) → without x xs ≡ xs
without_absent x [] absent = refl
without_absent x (y ∷ ys) absent =
    rw (ne_eqb y x (absent 0 (omega arith))) (ap (λ rest. y ∷ rest) (without_absent x ys (λ k inside. absent (suc k) (omega arith))))

-- one element before both lists
with_cons : (y : ℕ) (xs ys : List ℕ) (x place : ℕ) → IsWith xs ys x place → IsWith (y ∷ xs) (y ∷ ys) x (suc place)
with_cons y xs ys x place more = record {
  more = ap suc more.more;
  inside = omega (arith, more.inside);
  below = below;
  at = λ d. more.at d;
  above = above;
}
  where
    below : (k d : ℕ) → k < suc place → get_or (y ∷ ys) k d ≡ get_or (y ∷ xs) k d
    below zero d low = refl
    below (suc k) d low = more.below k d (omega arith)

    above : (k d : ℕ) → suc place ≤ k → get_or (y ∷ ys) (suc k) d ≡ get_or (y ∷ xs) k d
    above zero d high = absurd (omega arith)
    above (suc k) d high = more.above k d (omega arith)

-- where it stands once, the list is what is left with it at that place
pub with_without : (x : ℕ) (xs : List ℕ) (place : ℕ) → place < length xs → get_or xs place x ≡ x
    → ((k : ℕ) → k < length xs → k ≢ place → get_or xs k x ≢ x) → IsWith (without x xs) xs x place
with_without x [] place inside at alone = absurd (omega arith)
with_without x (y ∷ ys) zero inside at alone =
    rw (eq-eqb y x at, without_absent x ys (λ k short. alone (suc k) (omega arith) (λ e. omega arith)), at) (with_front ys x)
with_without x (y ∷ ys) (suc place) inside at alone =
    rw (ne_eqb y x (alone 0 (omega arith) (λ e. omega arith)))
    (with_cons y (without x ys) ys x place (with_without x ys place (omega arith) at
    (λ k short other. alone (suc k) (omega arith) (λ e. other (omega arith)))))
