use Rattle.std.proofs.Common.{arith}
use Rattle.std.proofs.Math.Facts.{to_z-of_z}
use Rattle.script_words.proofs.Operands.{number_argument, number_is_argument, argument_has_three, argument_sizes}
use Rattle.script_words.proofs.operand.argument.Goals as goal

pub signed-requires : goal.signed-requires
signed-requires c = number_argument c.args.word.now c.requires c.in_default.ensures.parts

pub returns-in_default : goal.returns-in_default
returns-in_default c = let same = number_is_argument c.args.word.now c.in_default.ensures.parts in grind (arith, to_z-of_z)

pub unreachable-requires : goal.unreachable-requires
unreachable-requires c =
    argument_has_three c.args.word.now c.in-Some.field-0-0.now c.in-Some.rest.now c.requires c.in-Some.ensures.parts
    c.in_default-three_parts.ensures

pub number-requires : goal.number-requires
number-requires c =
    (argument_sizes c.args.word.now c.in-Some.field-0-0.now c.in-Some.rest.now c.in-Some-three_parts.offset.now
    c.in-Some-three_parts.length.now c.in-Some-three_parts.max.now c.requires c.in-Some.ensures.parts
    c.in-Some-three_parts.ensures).offset

pub number-requires-2 : goal.number-requires-2
number-requires-2 c =
    (argument_sizes c.args.word.now c.in-Some.field-0-0.now c.in-Some.rest.now c.in-Some-three_parts.offset.now
    c.in-Some-three_parts.length.now c.in-Some-three_parts.max.now c.requires c.in-Some.ensures.parts
    c.in-Some-three_parts.ensures).length

pub number-requires-3 : goal.number-requires-3
number-requires-3 c =
    (argument_sizes c.args.word.now c.in-Some.field-0-0.now c.in-Some.rest.now c.in-Some-three_parts.offset.now
    c.in-Some-three_parts.length.now c.in-Some-three_parts.max.now c.requires c.in-Some.ensures.parts
    c.in-Some-three_parts.ensures).max

pub returns : goal.returns
returns c =
    let sizes = argument_sizes c.args.word.now c.in-Some.field-0-0.now c.in-Some.rest.now
    c.in-Some-three_parts.offset.now c.in-Some-three_parts.length.now c.in-Some-three_parts.max.now c.requires
    c.in-Some.ensures.parts c.in-Some-three_parts.ensures in
    rw (c.number.ensures.value, c.number-2.ensures.value, c.number-3.ensures.value) sizes.same
