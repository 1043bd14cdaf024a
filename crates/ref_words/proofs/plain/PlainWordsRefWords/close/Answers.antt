use Rattle.std.proofs.Common.{◌≡◌, ℕ, ◌-◌, ◌<◌, ◌≤◌, List, get_or, refl, sym, subst, ◌∙◌, ap, arith}
use Rattle.std.proofs.lemmas.List.{get_or_read}
use Rattle.ref_words.specs.Words.{Words, own_at}
use Rattle.ref_words.proofs.Soundness.{known_placed, sound_closed, sound_closed_last}
use Rattle.ref_words.proofs.plain.PlainWordsRefWords.close.Goals as goal

-- the count that was read is the place's
read_own : (was now : Words) (p n : ℕ) → was ≡ now → 0 < own_at now p → n ≡ get_or was.own p n → n ≡ own_at was p
read_own was now p n same known read = get_or_read was.own p n (known_placed was.own p (subst (λ (w : Words). 0 < own_at w p) (sym same) known)) read 0

more : (n k : ℕ) → n ≡ k → 0 < n - 1 → 1 < k
more n k same left = omega arith

one : (n k : ℕ) → n ≡ k → 0 < k → n - 1 ≤ 0 → k ≡ 1
one n k same known left = omega arith

pub invariant_of-self : goal.invariant_of-self
invariant_of-self c =
    let read = read_own _ _ _ _ c.self.view_is c.requires c.index.ensures in
    rw read (sound_closed _ _ c.self.invariant.0 (more _ _ read c.if-left-gt0.true), c.self.invariant.1)

pub returns-then-left-gt0-clause-closes : goal.returns-then-left-gt0-clause-closes
returns-then-left-gt0-clause-closes c = rw (read_own _ _ _ _ c.self.view_is c.requires c.index.ensures, ← c.self.view_is) refl

pub returns-then-left-gt0-clause-last : goal.returns-then-left-gt0-clause-last
returns-then-left-gt0-clause-last c = λ last. absurd (cc)

pub returns-then-left-gt0-clause-may_stay : goal.returns-then-left-gt0-clause-may_stay
returns-then-left-gt0-clause-may_stay c = λ stays last.
    let read = read_own _ _ _ _ c.self.view_is c.requires c.index.ensures in
    let more = more _ _ read c.if-left-gt0.true in
    omega (arith, ap (λ (w : Words). own_at w c.args.place) c.self.view_is)

pub returns-then-left-gt0-clause-stays : goal.returns-then-left-gt0-clause-stays
returns-then-left-gt0-clause-stays c = λ stays last. absurd (returns-then-left-gt0-clause-may_stay c stays last)

pub invariant_of-self-2 : goal.invariant_of-self-2
invariant_of-self-2 c =
    let known = subst (λ (w : Words). 0 < own_at w c.args.place) (sym c.self.view_is) c.requires in
    let read = read_own _ _ _ _ c.self.view_is c.requires c.index.ensures in
    rw read (sound_closed_last _ _ c.self.invariant.0 (one _ _ read known c.if-left-gt0.false), c.self.invariant.1)

pub returns-clause-closes : goal.returns-clause-closes
returns-clause-closes c = rw (read_own _ _ _ _ c.self.view_is c.requires c.index.ensures, ← c.self.view_is) refl

pub returns-clause-last : goal.returns-clause-last
returns-clause-last c = λ last.
    let read = read_own _ _ _ _ c.self.view_is c.requires c.index.ensures in
    let same = ap (λ (w : Words). own_at w c.args.place) c.self.view_is in
    one _ _ (read ∙ same) c.requires c.if-left-gt0.false
