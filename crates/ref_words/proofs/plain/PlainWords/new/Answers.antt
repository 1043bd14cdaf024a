use Rattle.std.proofs.Common.{◌≡◌, ℕ, replicate, refl, rules}
use Rattle.std.proofs.lemmas.List.{length-replicate}
use Rattle.ref_words.specs.declared.answer.Stage.{Stage}
use Rattle.ref_words.specs.declared.answer.Stage.TheVariants.{Fresh}
use Rattle.ref_words.proofs.Notes.{fresh-none_created}
use Rattle.ref_words.proofs.plain.PlainWords.new.Goals as goal

pub returns-clause-places : goal.returns-clause-places
returns-clause-places c =
    let counts : c.in_ok-counts.counts.items ≡ replicate {A = ℕ} c.args.places 0 = search rules in
    rw (counts, length-replicate) refl

pub returns-clause-fresh : goal.returns-clause-fresh
returns-clause-fresh c =
    let stages : c.in_ok-stages.stages.items ≡ replicate {A = Stage} c.args.places Fresh = search rules in
    λ p. rw stages (fresh-none_created c.args.places p)
