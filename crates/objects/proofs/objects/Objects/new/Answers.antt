use Rattle.std.proofs.Common.{◌≡◌, ◌≤◌, ℕ, length, replicate, refl, rules, arith}
use Rattle.ref_words.proofs.Notes.{out-none_created}
use Rattle.objects.proofs.Keeping.{kept_new}
use Rattle.objects.proofs.Listing.{listed_none}
use Rattle.objects.proofs.objects.Objects.new.Goals as goal

pub invariant_of-result : goal.invariant_of-result
invariant_of-result g c =
    let counts : c.in_ok-counts.counts.items ≡ replicate {A = ℕ} 4096 0 = search rules in
    let few : length (g.W.RefWords.meaning c.args.words).own ≤ 4294967295 = omega arith in (
      rw (c.in_ok-rows.ensures.items, c.in_ok-numbers.ensures.items, counts)
          (kept_new _ c.args.reuse _ c.requires c.places-places.ensures.stages few c.all.ensures),
      omega (arith, c.in_ok-rows.ensures.exact),
      omega (arith, c.in_ok-numbers.ensures.exact),
      rw (c.in_ok-rows.ensures.items, c.in_ok-names.ensures) listed_none,
    )

pub returns-clause-table : goal.returns-clause-table
returns-clause-table g c =
    let counts : c.in_ok-counts.counts.items ≡ replicate {A = ℕ} 4096 0 = search rules in
    rw (c.in_ok-rows.ensures.items, c.in_ok-numbers.ensures.items, counts) refl

pub returns-clause-none_out : goal.returns-clause-none_out
returns-clause-none_out g c = out-none_created (g.W.RefWords.meaning c.args.words) c.requires c.places-places.ensures.created

pub returns-clause-unmade : goal.returns-clause-unmade
returns-clause-unmade g c = c.places-places.ensures.unmade c.requires

pub returns-clause-uncounted : goal.returns-clause-uncounted
returns-clause-uncounted g c = λ p. c.places-places.ensures.fresh p (c.requires p)
