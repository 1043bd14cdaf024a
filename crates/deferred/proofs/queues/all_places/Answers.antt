use Rattle.std.proofs.Common.{◌≡◌, ℕ, ◌+◌, ◌-◌, List, [], ◌∷◌, ◌++◌, length, replicate, ap, ◌∙◌, append_assoc, arith}
use Rattle.std.proofs.lemmas.List.{replicate-append-replicate}
use Rattle.state_rows.specs.declared.deferred.DfcPlace.{DfcPlace}
use Rattle.state_rows.specs.DeferredChanges.{burial}
use Rattle.deferred.proofs.queues.all_places.Goals as goal

-- one more of the same at the end
one_more : (xs made : List DfcPlace) (n m : ℕ) (x : DfcPlace) → made ≡ xs ++ replicate n x → m ≡ n + 1 → made ++ x ∷ [] ≡ xs ++ replicate m x
one_more xs made n m x is more =
    rw (is, append_assoc, more) (ap (λ (rest : List DfcPlace). xs ++ rest) (replicate-append-replicate n 1 x))

pub loop-number-preserved : goal.loop-number-preserved
loop-number-preserved c =
    c.in_ok-push.ensures.items
    ∙ one_more c.args.dfcs.now c.loop-number.places.items (c.loop-number._number - length c.args.dfcs.now)
    (c.loop-number._number + 1 - length c.args.dfcs.now) burial c.loop-number.invariant
    (omega (arith, c.loop-number.auto._number))
