-- Bytes that are cut at the first of one kind.
use Rattle.std.proofs.Common.{◌≡◌, ◌≢◌, ℕ, zero, suc, ◌+◌, ◌-◌, ◌<◌, true, false, eqb, List, [], ◌∷◌, All, add-one, length, take, drop, get_or, refl, sym, arith, Some, None, position}
use Rattle.std.proofs.lemmas.List.{take_rest}
use Rattle.std.proofs.lemmas.List.Quantifiers.{position-Some}
use Rattle.std.proofs.lemmas.List.Elements.{recursion_from_All}
use Rattle.std.proofs.lemmas.Bool.{ne_eqb}
use Rattle.std.specs.List.{AllByRecursion}
use Rattle.std.specs.Prelude.{◌==◌, slice_index}
use Rattle.script_words.specs.Fields.{cut_of}
use Rattle.script_words.proofs.Steps.{by_test}

-- the parts round the first place
at_first : (at : ℕ) (bytes : List ℕ) (i : ℕ) → i < length bytes → eqb (get_or bytes i 0) at ≡ true → ((k : ℕ) → k < i → eqb (get_or bytes k 0) at ≡ false)
    → cut_of at bytes ≡ Some (take i bytes, drop (suc i) bytes)
at_first at [] i within here before = absurd (omega arith)
at_first at (b ∷ bs) zero within here before = rw here refl
at_first at (b ∷ bs) (suc i) within here before =
    let other : eqb b at ≡ false = before 0 (omega arith) in
    let later = at_first at bs i (omega arith) here (λ k lt. before (suc k) (omega arith)) in
    rw (other, later) refl

nowhere : (at : ℕ) (bytes : List ℕ) → AllByRecursion (λ b. b ≢ at) bytes → cut_of at bytes ≡ None
nowhere at [] others = refl
nowhere at (b ∷ bs) others =
    let other : eqb b at ≡ false = ne_eqb b at others.0 in
    let later = nowhere at bs others.1 in
    rw (other, later) refl

pub cut_none : (at : ℕ) (bytes : List ℕ) → All (λ b. b ≢ at) bytes → cut_of at bytes ≡ None
cut_none at bytes others = nowhere at bytes (recursion_from_All (λ b. b ≢ at) bytes others)

pub cut_some : (at : ℕ) (bytes : List ℕ) (i : ℕ) → position (λ b. eqb b at) bytes ≡ Some i
    → Some (take i bytes, take (length bytes - (i + 1)) (drop (i + 1) bytes)) ≡ cut_of at bytes
cut_some at bytes i found =
    let first = position-Some (λ b. eqb b at) bytes i 0 found in
    rw (take_rest, add-one) (sym (at_first at bytes i first.0 first.1 first.2))

-- the same where each place before is another byte
pub nowhere_far : (at : ℕ) (bytes : List ℕ) → ((k : ℕ) → k < length bytes → (slice_index bytes k == at) ≡ true → ⊥) → None ≡ cut_of at bytes
nowhere_far at [] h = refl
nowhere_far at (b ∷ bs) h =
    by_test {P = None ≡ cut_of at (b ∷ bs)} (b == at)
    (λ e. absurd (h 0 (omega arith) e))
    (λ e. let later = sym (nowhere_far at bs (λ k lt is. h (suc k) (omega arith) is)) in rw (e, later) refl)

first_far : (at : ℕ) (bytes : List ℕ) (i : ℕ) → i < length bytes → (slice_index bytes i == at) ≡ true
    → ((k : ℕ) → k < i → (slice_index bytes k == at) ≡ true → ⊥)
    → cut_of at bytes ≡ Some (take i bytes, drop (suc i) bytes)
first_far at [] i within here before = absurd (omega arith)
first_far at (b ∷ bs) zero within here before = rw here refl
first_far at (b ∷ bs) (suc i) within here before =
    by_test {P = cut_of at (b ∷ bs) ≡ Some (take (suc i) (b ∷ bs), drop (suc (suc i)) (b ∷ bs))} (b == at)
    (λ e. absurd (before 0 (omega arith) e))
    (λ e. let later = first_far at bs i (omega arith) here (λ k lt is. before (suc k) (omega arith) is) in rw (e, later) refl)

pub cut_far : (at : ℕ) (bytes : List ℕ) (i : ℕ) → i < length bytes → (slice_index bytes i == at) ≡ true
    → ((k : ℕ) → k < i → (slice_index bytes k == at) ≡ true → ⊥)
    → Some (take i bytes, take (length bytes - (i + 1)) (drop (i + 1) bytes)) ≡ cut_of at bytes
cut_far at bytes i within here before = rw (take_rest, add-one) (sym (first_far at bytes i within here before))
