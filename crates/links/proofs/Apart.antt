-- Where neighbours stand for lists, each entry stands at one place of one list.
use Rattle.std.proofs.Common.{◌≡◌, ◌≢◌, ℕ, zero, suc, ◌+◌, ◌<◌, ◌≤◌, List, [], length, get_or, refl, sym, ap, ◌∙◌, arith, inl, inr}
use Rattle.std.specs.Prelude.{Some}
use Rattle.std.proofs.lemmas.Bool.{cases_lt}
use Rattle.std.proofs.lemmas.List.{get_or_past}
use Rattle.std.proofs.lemmas.Option.{slice_get-get_or}
use Rattle.links.specs.Rings.{here, before, AreLinked, IsFree}

module _ (n : ℕ) (next previous : List ℕ) (lists : List (List ℕ)) (are : AreLinked n next previous lists) where
  -- a node or an end is an entry
  pub here_below : (l k : ℕ) → l < length lists → k ≤ length (get_or lists l []) → here (n + l) (get_or lists l []) k < n + length lists
  here_below l k listed within =
      elim (cases_lt k (length (get_or lists l []))) [
        | inl inside ↦ omega (arith, (are.rings l listed).below k inside)
        | inr past ↦ omega (arith, get_or_past (get_or lists l []) k (n + l) past)
      ]

  pub before_below : (l k : ℕ) → l < length lists → k ≤ length (get_or lists l []) → before (n + l) (get_or lists l []) k < n + length lists
  before_below l zero listed within = omega arith
  before_below l (suc k) listed within = here_below l k listed (omega arith)

  -- what stands before a place tells the list and the place
  pub before_apart : (k j l m : ℕ) → l < length lists → m < length lists → k ≤ length (get_or lists l [])
      → j ≤ length (get_or lists m []) → before (n + l) (get_or lists l []) k ≡ before (n + m) (get_or lists m []) j
      → (l ≡ m) × (k ≡ j)
  before_apart zero zero l m in_l in_m at_l at_m same = (omega arith, refl)
  before_apart zero (suc j) l m in_l in_m at_l at_m same = absurd (omega (arith, (are.rings m in_m).below j (omega arith)))
  before_apart (suc k) zero l m in_l in_m at_l at_m same = absurd (omega (arith, (are.rings l in_l).below k (omega arith)))
  before_apart (suc k) (suc j) l m in_l in_m at_l at_m same =
      let left = (are.rings l in_l).backward k (omega arith) in
      let right = (are.rings m in_m).backward j (omega arith) in
      let rest = before_apart k j l m in_l in_m (omega arith) (omega arith) (sym left ∙ ap (λ x. get_or previous x 0) same ∙ right) in
      (rest.0, omega (arith, rest.1))

  -- and so does what stands at it
  pub here_apart : (k j l m : ℕ) → l < length lists → m < length lists → k ≤ length (get_or lists l [])
      → j ≤ length (get_or lists m []) → here (n + l) (get_or lists l []) k ≡ here (n + m) (get_or lists m []) j
      → (l ≡ m) × (k ≡ j)
  here_apart k j l m in_l in_m at_l at_m same =
      let left = (are.rings l in_l).backward k at_l in
      let right = (are.rings m in_m).backward j at_m in
      before_apart k j l m in_l in_m at_l at_m (sym left ∙ ap (λ x. get_or previous x 0) same ∙ right)

  -- a node on no list stands nowhere
  pub here_free : (l k x : ℕ) → x < n → IsFree lists x → here (n + l) (get_or lists l []) k ≢ x
  here_free l k x node free is =
      elim (cases_lt k (length (get_or lists l []))) as (λ _. ⊥) [
        | inl inside ↦ free l k (slice_get-get_or (get_or lists l []) k (n + l) inside ∙ ap Some is)
        | inr past ↦ absurd (omega (arith, get_or_past (get_or lists l []) k (n + l) past))
      ]

  pub before_free : (l k x : ℕ) → x < n → IsFree lists x → before (n + l) (get_or lists l []) k ≢ x
  before_free l zero x node free is = absurd (omega arith)
  before_free l (suc k) x node free is = here_free l k x node free is
