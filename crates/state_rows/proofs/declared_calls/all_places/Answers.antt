use Rattle.std.proofs.Common.{◌≡◌, ℕ, ◌+◌, ◌-◌, List, [], ◌∷◌, ◌++◌, length, map, replicate, ap, ◌∙◌, append_assoc, arith}
use Rattle.std.proofs.lemmas.List.{length-map, replicate-append-replicate}
use Rattle.state_rows.specs.DeclaredCalls.{place_of}
use Rattle.state_rows.specs.DeferredChanges.{burial}
use Rattle.state_rows.specs.declared.deferred.DfcPlace.{DfcPlace}
use Rattle.state_rows.proofs.declared_calls.all_places.Goals as goal

-- one more of the same at the end
one_more : (xs made : List DfcPlace) (n m : ℕ) (x : DfcPlace) → made ≡ xs ++ replicate n x → m ≡ n + 1 → made ++ x ∷ [] ≡ xs ++ replicate m x
one_more xs made n m x is more =
    rw (is, append_assoc, more) (ap (λ (rest : List DfcPlace). xs ++ rest) (replicate-append-replicate n 1 x))

pub loop-number-preserved : goal.loop-number-preserved
loop-number-preserved c =
    let dfcs = c.args.script.now.dfcs in
    let long : length c.in_ok-places.places.items ≡ length dfcs = ap length c.in_ok-places.ensures.places ∙ length-map dfcs (place_of c.args.script.now) in
    c.in_ok-push.ensures.items
    ∙ one_more (map (place_of c.args.script.now) dfcs) c.loop-number.places.items (c.loop-number._number - length dfcs)
    (c.loop-number._number + 1 - length dfcs) burial c.loop-number.invariant
    (omega (arith, c.loop-number.auto._number, c.len-number.ensures, long))
