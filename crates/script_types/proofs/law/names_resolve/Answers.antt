use Rattle.script_types.proofs.NameLaws.{formed_names_resolve}
use Rattle.script_types.proofs.law.names_resolve.Goals as goal

pub returns : goal.returns
returns c = formed_names_resolve c.args.script.now c.requires
