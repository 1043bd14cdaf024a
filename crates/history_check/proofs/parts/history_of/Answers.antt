use Rattle.std.proofs.Common.{◌++◌, ◌∙◌, ℕ, List, ap, sym}
use Rattle.history_check.specs.InputParts.{script_part}
use Rattle.history_check.proofs.InputParts.{none_behind, parted_end, parted_last, parted_more}
use Rattle.history_check.proofs.parts.history_of.Goals as goal

pub returns-then-is_end-clause-script : goal.returns-then-is_end-clause-script
returns-then-is_end-clause-script c =
    let parts = parted_end c.args.input.now c.loop-line.rest.now c.in-Some.line.now c.in-Some.behind.now
    c.loop-line.invariant c.in-Some.ensures.parts (sym c.is_end.ensures ∙ c.if-is_end.true) in
    parts.script

pub returns-then-is_end-clause-history : goal.returns-then-is_end-clause-history
returns-then-is_end-clause-history c =
    let parts = parted_end c.args.input.now c.loop-line.rest.now c.in-Some.line.now c.in-Some.behind.now
    c.loop-line.invariant c.in-Some.ensures.parts (sym c.is_end.ensures ∙ c.if-is_end.true) in
    parts.history

pub loop-line-preserved : goal.loop-line-preserved
loop-line-preserved c =
    parted_more c.args.input.now c.loop-line.rest.now c.in-Some.line.now c.in-Some.behind.now c.loop-line.invariant
    c.in-Some.ensures.parts (sym c.is_end.ensures ∙ c.if-is_end.false)

pub returns-clause-script : goal.returns-clause-script
returns-clause-script c =
    let parts = parted_last c.args.input.now c.loop-line.rest.now c.loop-line.invariant c.in_default.ensures.parts in
    parts.script ∙ ap (λ (behind : List ℕ). script_part c.args.input.now ++ behind) (sym (none_behind _ c.loop-line.rest.now))

pub returns-clause-history : goal.returns-clause-history
returns-clause-history c =
    let parts = parted_last c.args.input.now c.loop-line.rest.now c.loop-line.invariant c.in_default.ensures.parts in
    none_behind _ c.loop-line.rest.now ∙ parts.history
