use Rattle.std.proofs.Common.{◌∙◌}
use Rattle.script_words.specs.Signs.{is_number_word, is_size_word}
use Rattle.script_words.proofs.Arguments.{one_part, other_parts, four_parts}
use Rattle.script_words.proofs.argument.is_argument_in_range.Goals as goal

pub returns-in_default : goal.returns-in_default
returns-in_default c = c.is_between.ensures ∙ one_part is_number_word is_size_word c.args.word.now c.in_default.ensures.parts

pub returns-in_default-three_parts : goal.returns-in_default-three_parts
returns-in_default-three_parts c =
    other_parts is_number_word is_size_word c.args.word.now c.in-Some.letter.now c.in-Some.rest.now
    c.in-Some.ensures.parts c.in_default-three_parts.ensures

pub returns : goal.returns
returns c =
    rw (c.are_all.ensures, c.is_word-is_descriptor.ensures, c.is_size.ensures, c.is_size-2.ensures, c.is_size-3.ensures)
    (four_parts is_number_word is_size_word c.args.word.now c.in-Some.letter.now c.in-Some.rest.now
    c.in-Some-three_parts.offset.now c.in-Some-three_parts.length.now c.in-Some-three_parts.max.now
    c.in-Some.ensures.parts c.in-Some-three_parts.ensures)
