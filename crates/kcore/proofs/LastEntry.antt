-- An entry that is pushed, and then told where it lies.
use Rattle.std.proofs.Common.{◌≡◌, ◌∙◌, ℕ, List, [], ◌∷◌, ◌++◌, length, get_or, set, ap}
use Rattle.std.proofs.Math.Seq.{get_or-append_seam, set-append_seam}
use Rattle.entry_log.specs.declared.entry.Actor.{Actor}
use Rattle.entry_log.specs.declared.entry.Entry.{Entry}
use Rattle.machine.specs.declared.decision.Outcome.{Outcome}
use Rattle.machine.specs.History.{entry_of}
use Rattle.kcore.specs.Told.{IsTold, told_in}

-- the entry is one of this place and actor, and tells what was done
pub told_as : (old fresh new : Entry) (place : ℕ) (actor : Actor) (outcome : Outcome) → old ≡ fresh
    → fresh ≡ entry_of place actor outcome → IsTold old new → new ≡ entry_of place actor (told_in new)
told_as old fresh new place actor outcome is made told = told ∙ ap (λ (e : Entry). entry_of e.place e.actor (told_in new)) (is ∙ made)

module _ (history items : List Entry) (fresh : Entry) (n : ℕ) where
  -- the last entry is the one that was pushed
  pub last_is : (last : Entry) → items ≡ history ++ fresh ∷ [] → n ≡ length history → last ≡ get_or items n last → last ≡ fresh
  last_is last pushed at is =
      is
      ∙ (ap (λ (l : List Entry). get_or l n last) pushed
      ∙ (ap (λ (k : ℕ). get_or (history ++ fresh ∷ []) k last) at ∙ get_or-append_seam history fresh [] last))

  -- another in its place
  pub last_told : (told : Entry) → items ≡ history ++ fresh ∷ [] → n ≡ length history → set items n told ≡ history ++ told ∷ []
  last_told told pushed at =
      ap (λ (l : List Entry). set l n told) pushed ∙ (ap (λ (k : ℕ). set (history ++ fresh ∷ []) k told) at ∙ set-append_seam history fresh [] told)
