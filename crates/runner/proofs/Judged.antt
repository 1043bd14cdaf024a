-- Inputs that are accepted, and those that have a first bad line.
use Rattle.std.proofs.Common.{◌≡◌, ℕ, ◌≤◌, ◌<◌, List, length, Option, Some, None, IfSome, arith, subst, sym}
use Rattle.std.specs.Prelude.{IsSomeAnd, Result, Err}
use Rattle.runner.specs.Inputs.{IsLargeInput}
use Rattle.script_read.specs.declared.fault.RunFault.{RunFault}
use Rattle.script_read.specs.declared.fault.RunFault.TheVariants as fault
use Rattle.script_read.specs.declared.reason.Reason.{Reason}

-- what holds of the input holds of the bytes that a source told
pub of_told : (P : List ℕ → Type 0) (left : Option (List ℕ)) (input : List ℕ) → IfSome left (λ bytes. bytes ≡ input) → P input → IfSome left P
of_told P None input same holds = tt
of_told P (Some bytes) input same holds = subst P (sym same) holds

-- and what holds of those holds of the input
pub of_input : (P : List ℕ → Type 0) (left : Option (List ℕ)) (input : List ℕ) → IfSome left (λ bytes. bytes ≡ input) → IsSomeAnd left P → P input
of_input P None input same holds = absurd holds
of_input P (Some bytes) input same holds = subst P same holds

-- an input within the limit isn't too large
pub not_large : (left : Option (List ℕ)) (input : List ℕ) → IfSome left (λ bytes. bytes ≡ input) → length input ≤ 1048576 → IsSomeAnd left IsLargeInput → ⊥
not_large left input same few large = let big : 1048576 < length input = of_input IsLargeInput left input same large in absurd (omega arith)

-- what holds of a refusal's line and reason holds of those of an equal one
pub same_refusal : {A : Type 0} (P : ℕ → Reason → Type 0) (l line : ℕ) (r why : Reason)
    → ◌≡◌ {A = Result A RunFault} (Err (fault.Refused l r)) (Err (fault.Refused line why)) → P l r → P line why
same_refusal P l line r why same holds =
    let at : l ≡ line = cc in
    let reason : r ≡ why = cc in
    subst (λ (n : ℕ). P n why) at (subst (P l) reason holds)
