use Rattle.std.proofs.Common.{add-one, length, rules, tests}
use Rattle.std.proofs.lemmas.Iterator.Consumers.{YieldsList-turn, YieldsList-end}
use Rattle.std.proofs.lemmas.Iterator.Splits.{YieldsList-from_slice_split}
use Rattle.std.proofs.lemmas.List.{length_push}
use Rattle.script_words.specs.LineSigns.{is_op}
use Rattle.script_words.specs.Pieces.{pieces}
use Rattle.script_words.specs.Signs.{has_form, is_in_range}
use Rattle.script_words.proofs.Bodies.{ends, parts_of, one_more_passes, whole_passes}
use Rattle.script_words.proofs.WordFaults.{joined}
use Rattle.script_words.proofs.line_form.body_fault.Goals as goal

pub loop-operation-preserved : goal.loop-operation-preserved
loop-operation-preserved c =
    let words = c.args.words.now in
    let n = length c.loop-operation.yielded in
    let part = c.in-Some.operation.now in
    let t = YieldsList-turn (YieldsList-from_slice_split _ ends words (cc) (cc) (cc) (λ x b q k. search (rules, tests)))
    c.loop-operation.yielded _ c.loop-operation.yielded_by _ _ c.in-Some.operation c.in-Some.is c.next.ensures.steps in
    let form = one_more_passes (λ part. is_op has_form c.args.kind (pieces part)) (parts_of words) n part t.0 t.1 in
    let range = one_more_passes (λ part. is_op is_in_range c.args.kind (pieces part)) (parts_of words) n part t.0 t.1 in
    let size = length_push c.loop-operation.yielded c.in-Some.operation in
    let both = rw (c.loop-operation.invariant, c.operation_fault.ensures, joined _ _ _ _) at c.both_faults-fault.ensures in
    rw (size, add-one, form, range) both

pub returns : goal.returns
returns c =
    let words = c.args.words.now in
    let t = YieldsList-end (YieldsList-from_slice_split _ ends words (cc) (cc) (cc) (λ x b q k. search (rules, tests)))
    c.loop-operation.yielded _ c.loop-operation.yielded_by _ _ c.in-None.is c.next.ensures.steps in
    let form = whole_passes (is_op has_form c.args.kind) words (length c.loop-operation.yielded) t.1 in
    let range = whole_passes (is_op is_in_range c.args.kind) words (length c.loop-operation.yielded) t.1 in
    rw (form, range) at c.loop-operation.invariant
