use Rattle.std.proofs.Common.{◌≡◌, ℕ, List, ◌∷◌, ◌++◌, take}
use Rattle.std.specs.List.{flat_map}
use Rattle.script_types.specs.SourceWords.{body_words}
use Rattle.script_print.proofs.print_bodies.put_body.Given as goal

-- the operations so far
abbrev pub invariant-loop-number : goal.invariant-loop-number
invariant-loop-number l = l.out.items ≡ l.fn.out.items ++ flat_map (λ (w : List ℕ). 32 ∷ w) (body_words (take l.number l.ops))
