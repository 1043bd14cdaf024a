-- A run of one slot grows by one.
use Rattle.std.proofs.Common.{◌≡◌, ℕ, ◌+◌, List, [], ◌∷◌, ◌++◌, append_assoc, replicate, ap, ◌∙◌}
use Rattle.std.proofs.lemmas.List.{replicate_more}
use Rattle.script_types.specs.declared.script.Slot.{Slot}

pub run_more : (slots old : List Slot) (n : ℕ) (slot : Slot) → slots ≡ old ++ replicate n slot → slots ++ slot ∷ [] ≡ old ++ replicate (n + 1) slot
run_more slots old n slot h =
    ap (λ (xs : List Slot). xs ++ slot ∷ []) h ∙ append_assoc old (replicate n slot) (slot ∷ []) ∙ ap (λ (xs : List Slot). old ++ xs) (replicate_more n slot)
