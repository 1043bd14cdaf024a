use Rattle.std.proofs.Common.{◌≡◌, sym, ◌∙◌, arith}
use Rattle.std.proofs.lemmas.Fmt.{decimal_injective}
use Rattle.eka2_app.proofs.words.workers_of.Goals as goal
use Rattle.eka2_app.proofs.words.workers_of.Goals.{else-number-ge1-via-then-number-ge1+else-number-le-MOST_WORKERS, else-number-ge1-via-else-number-ge1}

-- the number that the word spells is out of the range
pub returns-else-number-ge1-clause-none : goal.returns-else-number-ge1-clause-none
returns-else-number-ge1-clause-none c = λ same n low high spelt.
    let equal : n ≡ c.in_ok-number.number = decimal_injective n c.in_ok-number.number (omega arith) (omega arith) (sym spelt ∙ c.in_ok-number.ensures) in
    elim c.else-number-ge1.branch [
      | else-number-ge1-via-then-number-ge1+else-number-le-MOST_WORKERS w ↦ omega arith
      | else-number-ge1-via-else-number-ge1 w ↦ omega arith
    ]
