use Rattle.std.proofs.Common.{◌∙◌, add-one, length, rules, tests}
use Rattle.std.proofs.lemmas.Iterator.Consumers.{YieldsList-turn, YieldsList-end}
use Rattle.std.proofs.lemmas.Iterator.Splits.{YieldsList-from_slice_split}
use Rattle.std.proofs.lemmas.List.{length_push}
use Rattle.script_words.specs.LineAt.{op_of}
use Rattle.script_words.specs.Operands.{IsOperation}
use Rattle.script_words.specs.Pieces.{pieces}
use Rattle.script_words.proofs.Bodies.{ends, parts_of, known_operation, one_more, whole_body}
use Rattle.script_words.proofs.body.body.Goals as goal

pub operation-requires : goal.operation-requires
operation-requires c =
    let words = c.args.words.now in
    let t = YieldsList-turn (YieldsList-from_slice_split _ ends words (cc) (cc) (cc) (λ x b q k. search (rules, tests)))
    c.loop-part.yielded _ c.loop-part.yielded_by _ _ c.in-Some.part c.in-Some.is c.next.ensures.steps in
    known_operation IsOperation words (length c.loop-part.yielded) c.in-Some.part.now c.requires t.0 t.1

pub loop-part-preserved : goal.loop-part-preserved
loop-part-preserved c =
    let words = c.args.words.now in
    let t = YieldsList-turn (YieldsList-from_slice_split _ ends words (cc) (cc) (cc) (λ x b q k. search (rules, tests)))
    c.loop-part.yielded _ c.loop-part.yielded_by _ _ c.in-Some.part c.in-Some.is c.next.ensures.steps in
    let more = one_more (λ part. op_of (pieces part)) (parts_of words) (length c.loop-part.yielded) c.in-Some.part.now t.0 t.1 in
    let size = length_push c.loop-part.yielded c.in-Some.part in
    let added = c.in_ok-push.ensures.ok in
    let here = c.operation.ensures in
    let before = c.loop-part.invariant in
    rw (size, add-one) (cc)

pub returns : goal.returns
returns c =
    let words = c.args.words.now in
    let t = YieldsList-end (YieldsList-from_slice_split _ ends words (cc) (cc) (cc) (λ x b q k. search (rules, tests)))
    c.loop-part.yielded _ c.loop-part.yielded_by _ _ c.in-None.is c.next.ensures.steps in
    c.loop-part.invariant ∙ whole_body op_of words (length c.loop-part.yielded) t.1
