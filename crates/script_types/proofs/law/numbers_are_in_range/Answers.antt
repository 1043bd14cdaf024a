use Rattle.script_types.proofs.NumberLaws.{formed_numbers_in_range}
use Rattle.script_types.proofs.law.numbers_are_in_range.Goals as goal

pub returns : goal.returns
returns c = formed_numbers_in_range c.args.script.now c.requires
