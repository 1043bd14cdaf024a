-- Reads one after another.
use Rattle.std.proofs.Common.{◌≡◌, ℕ, List, [], ◌++◌, append_assoc, refl, ◌∙◌, ap}
use Rattle.std.proofs.lemmas.List.{append-nil}
use Rattle.std.specs.Prelude.{Option, None, Some, IfSome, is_some}
use Rattle.edge_io.specs.Left.{preceded}

-- bytes, and more bytes, and then those that are left
pub preceded-append : (xs ys : List ℕ) (left : Option (List ℕ)) → preceded (xs ++ ys) left ≡ preceded xs (preceded ys left)
preceded-append xs ys None = refl
preceded-append xs ys (Some zs) = ap Some (append_assoc xs ys zs)

-- no byte, and then those that are left
pub preceded-nil : (left : Option (List ℕ)) → preceded [] left ≡ left
preceded-nil None = refl
preceded-nil (Some zs) = refl

-- what was read before, and then what this read gave
pub read_more : (whole old new : Option (List ℕ)) (input bytes : List ℕ) → preceded input old ≡ whole
    → preceded bytes new ≡ old → preceded (input ++ bytes) new ≡ whole
read_more whole old new input bytes before now = preceded-append input bytes new ∙ ap (preceded input) now ∙ before

-- where nothing is left, what was read is the whole input
pub read_all : (whole left : Option (List ℕ)) (input : List ℕ) → preceded input left ≡ whole
    → IfSome left (λ bytes. bytes ≡ []) → IfSome whole (λ bytes. bytes ≡ input)
read_all whole None input read end = rw (← read) tt
read_all whole (Some bytes) input read end = rw (← read, end) (append-nil input)

-- a source goes on to tell its bytes, or not to
pub still_tells : (whole left : Option (List ℕ)) (input : List ℕ) → preceded input left ≡ whole → is_some left ≡ is_some whole
still_tells whole None input read = ap is_some read
still_tells whole (Some bytes) input read = ap is_some read
