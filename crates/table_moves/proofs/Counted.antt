-- A count of a thread that falls step by step.
use Rattle.std.proofs.Common.{◌≡◌, ◌-◌, ◌≤◌, ◌∙◌, ℕ, List, length, get_or, set, arith, sym, ap, inl, inr}
use Rattle.std.proofs.lemmas.Bool.{cases_lt}
use Rattle.std.proofs.lemmas.List.{set-set, set_past, get_or-set_same, length-set}

-- one less of so many
pub one_less : (counts : List ℕ) (t m : ℕ) → set (set counts t m) t (get_or (set counts t m) t 0 - 1) ≡ set counts t (m - 1)
one_less counts t m = elim (cases_lt t (length counts)) [
  | inl inside ↦ set-set counts t m _ ∙ ap (λ (k : ℕ). set counts t (k - 1)) (get_or-set_same counts t m 0 inside)
  | inr past ↦
      let long : length (set counts t m) ≤ t = omega (arith, length-set counts t m) in
      set_past (set counts t m) t _ long ∙ (set_past counts t m past ∙ sym (set_past counts t (m - 1) past))
]
