-- Three passes that are taken out of a list, and put into one.
use Rattle.std.proofs.Common.{◌≡◌, ◌∙◌, sym, ap, subst, arith, ℕ, ◌+◌, ◌<◌, List, [], ◌∷◌, ◌++◌, length, map}
use Rattle.std.proofs.lemmas.List.{length-append, length-map}
use Rattle.std.specs.Prelude.{All, Contains}
use Rattle.turn_lock.specs.declared.pass.Pass.{Pass}
use Rattle.turn_lock.specs.Passes.{caller_of, numbers}
use Rattle.turn_lock.proofs.Dealing.{contains_number}

module _ {B : Type 0} where
  pub record AreThree (P : Pass B → Type 0) (a b c : Pass B) : Type 0 where
    pub callers : (caller_of a ≡ 0) × (caller_of b ≡ 1) × (caller_of c ≡ 2)
    pub each : P a × P b × P c

  pub three-taken : (P : Pass B → Type 0) (all rest : List (Pass B)) (a b c : Pass B)
      → all ≡ ((rest ++ a ∷ []) ++ b ∷ []) ++ c ∷ [] → map caller_of all ≡ numbers 0 3 → All P all → AreThree P a b c
  three-taken P all [] a b c is callers holds =
      let numbers : caller_of a ∷ caller_of b ∷ caller_of c ∷ [] ≡ 0 ∷ 1 ∷ 2 ∷ [] = ap (map caller_of) (sym is) ∙ callers in
      let each : All P (a ∷ b ∷ c ∷ []) = subst (All P) is holds in
      record { callers = (cc, cc, cc); each = (each 0 a (omega arith), each 1 a (omega arith), each 2 a (omega arith)) }
  three-taken P all (x ∷ rest) a b c is callers holds =
      let many : length all ≡ 3 = sym (length-map all caller_of) ∙ ap length callers in
      let more : length all ≡ length ((((x ∷ rest) ++ a ∷ []) ++ b ∷ []) ++ c ∷ []) = ap length is in
      absurd (omega (
        arith,
        length-append (((x ∷ rest) ++ a ∷ []) ++ b ∷ []) (c ∷ []),
        length-append ((x ∷ rest) ++ a ∷ []) (b ∷ []),
        length-append (x ∷ rest) (a ∷ []),
      ))

  -- each time one is taken one fewer is left
  pub three-many : (all : List (Pass B)) → map caller_of all ≡ numbers 0 3 → length all ≡ 3
  three-many all callers = sym (length-map all caller_of) ∙ ap length callers

  pub one-fewer : (all rest : List (Pass B)) (p : Pass B) (n : ℕ) → all ≡ rest ++ p ∷ [] → length all ≡ n + 1 → length rest ≡ n
  one-fewer all rest p n is many = let more : length all ≡ length rest + 1 = ap length is ∙ length-append rest (p ∷ []) in omega arith

  pub three-made : (none one two all : List (Pass B)) (a b c : Pass B) → none ≡ [] → one ≡ none ++ a ∷ []
      → two ≡ one ++ b ∷ [] → all ≡ two ++ c ∷ [] → all ≡ a ∷ b ∷ c ∷ []
  three-made none one two all a b c zero first second third =
      third ∙ ap (λ (l : List (Pass B)). l ++ c ∷ []) (second ∙ ap (λ (l : List (Pass B)). l ++ b ∷ []) (first ∙ ap (λ (l : List (Pass B)). l ++ a ∷ []) zero))

  pub three-all : (all : List (Pass B)) (a b c : Pass B) → all ≡ a ∷ b ∷ c ∷ [] → caller_of a ≡ 0 → caller_of b ≡ 1
      → caller_of c ≡ 2 → (k : ℕ) → k < 3 → Contains (map caller_of all) k
  three-all all a b c is one two three k low = contains_number (map caller_of all) 3 k (ap (map caller_of) is ∙ (λ i. one i ∷ two i ∷ three i ∷ [])) low
