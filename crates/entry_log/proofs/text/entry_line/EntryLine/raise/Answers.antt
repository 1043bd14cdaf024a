use Rattle.std.proofs.Common.{◌∙◌, ℕ, ◌+◌, ◌-◌, List, [], ◌∷◌, ◌++◌, ap, arith, get_or, length}
use Rattle.entry_log.proofs.NextPlace.{raised_line, some_digit}
use Rattle.entry_log.proofs.text.entry_line.EntryLine.raise.Goals as goal

pub overflow_sub-last : goal.overflow_sub-last
overflow_sub-last c =
    omega (
      arith,
      some_digit c.self.inside.line.items c.self.inside.digits c.self.inside.place c.self.invariant.0 c.self.invariant.1
          (omega (arith, c.from.ensures, c.from.type_inv)),
    )

pub bounds-as_slice-last : goal.bounds-as_slice-last
bounds-as_slice-last c =
    omega (
      arith,
      c.self.invariant.0,
      ap length c.as_slice.ensures.bytes,
      some_digit c.self.inside.line.items c.self.inside.digits c.self.inside.place c.self.invariant.0 c.self.invariant.1
          (omega (arith, c.from.ensures, c.from.type_inv)),
    )

-- the last digit is raised, and no more stands there
pub invariant_of-self : goal.invariant_of-self
invariant_of-self c =
    let last = c.self.inside.digits - 1 in
    let digit = get_or c.as_slice.result.now last 0 in
    (raised_line c.self.inside.line.items c.push.new.self.items c.self.inside.digits c.self.inside.place c.args.place digit c.self.invariant.0
    c.self.invariant.1 (omega (arith, c.if-from.false, c.from.ensures, c.from-2.ensures)) (omega (arith, c.ranges.place.fits))
    (ap (λ (l : List ℕ). get_or l last 0) c.as_slice.ensures.bytes) c.if-digit-ge57.false
    (c.push.ensures.items ∙ ap (λ (l : List ℕ). l ++ (digit + 1) ∷ []) c.keep.ensures)).1

pub returns : goal.returns
returns c =
    let last = c.self.inside.digits - 1 in
    let digit = get_or c.as_slice.result.now last 0 in
    λ _. (raised_line c.self.inside.line.items c.push.new.self.items c.self.inside.digits c.self.inside.place c.args.place digit c.self.invariant.0
    c.self.invariant.1 (omega (arith, c.if-from.false, c.from.ensures, c.from-2.ensures)) (omega (arith, c.ranges.place.fits))
    (ap (λ (l : List ℕ). get_or l last 0) c.as_slice.ensures.bytes) c.if-digit-ge57.false
    (c.push.ensures.items ∙ ap (λ (l : List ℕ). l ++ (digit + 1) ∷ []) c.keep.ensures)).0
