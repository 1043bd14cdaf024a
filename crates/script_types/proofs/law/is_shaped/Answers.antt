use Rattle.script_types.proofs.ShapeLaws.{formed_is_shaped}
use Rattle.script_types.proofs.law.is_shaped.Goals as goal

pub returns : goal.returns
returns c = formed_is_shaped c.args.script.now c.requires
