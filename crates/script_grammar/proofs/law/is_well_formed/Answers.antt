use Rattle.script_grammar.proofs.Valid.{valid_is_formed}
use Rattle.script_grammar.proofs.law.is_well_formed.Goals as goal

pub returns : goal.returns
returns c = valid_is_formed c.args.script.now c.requires
