-- What a pass has in hand, where it has taken the slot.
use Rattle.std.proofs.Common.{◌≡◌, ℕ, List, [], ◌∷◌, sym, refl, ap, ◌∙◌, subst}
use Rattle.std.specs.Prelude.{Some}
use Rattle.atomic_table.specs.Table.{Me, rest}

abbrev first_or : {S : Type 0} → S → List (ℕ × S) → S
first_or d [] = d
first_or d (x ∷ xs) = x.1

pub of_some : {A : Type 0} {a b : A} → Some a ≡ Some b → a ≡ b
of_some e = cc

module _ {S V : Type 0} where
  -- it has taken the slot
  pub in_hand : (me : Me S V) (v : V) (y : S) → me ≡ (v, (0, y) ∷ []) → (x : S) × (me.1 ≡ (0, x) ∷ rest me.1)
  in_hand me v y e = (y, subst (λ (m : Me S V). m.1 ≡ (0, y) ∷ rest m.1) (sym e) refl)

  -- what an exchange finds there
  pub found_in_hand : (me : Me S V) (v : V) (y x : S) → me ≡ (v, (0, y) ∷ []) → me.1 ≡ (0, x) ∷ rest me.1 → y ≡ x
  found_in_hand me v y x e h = ap (λ (m : Me S V). first_or y m.1) (sym e) ∙ ap (first_or y) h

  -- and what it leaves
  pub left_in_hand : (me new : Me S V) (v : V) (y z : S) → me ≡ (v, (0, y) ∷ []) → new ≡ (me.0, (0, z) ∷ rest me.1) → new ≡ (v, (0, z) ∷ [])
  left_in_hand me new v y z e h = h ∙ ap (λ (m : Me S V). (m.0, (0, z) ∷ rest m.1)) e
