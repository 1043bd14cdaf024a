use Rattle.script_types.proofs.ShapeLaws.{formed_is_shaped}
use Rattle.plain_machine.proofs.plain.Plain.boot.Goals as goal

pub state_at_boot-requires : goal.state_at_boot-requires
state_at_boot-requires c = formed_is_shaped _ c.requires

pub ready_at_boot-requires : goal.ready_at_boot-requires
ready_at_boot-requires c = formed_is_shaped _ c.requires
