use Rattle.script_types.proofs.ShapeLaws.{formed_is_shaped}
use Rattle.nano.proofs.Known.{declared_known}
use Rattle.nano.proofs.nano.Nano.new.Goals as goal

pub new_sync-requires : goal.new_sync-requires
new_sync-requires c = formed_is_shaped c.args.script.now c.requires

pub new_deferred-requires : goal.new_deferred-requires
new_deferred-requires c = formed_is_shaped c.args.script.now c.requires

pub interrupts_of-requires : goal.interrupts_of-requires
interrupts_of-requires c = formed_is_shaped _ c.requires

pub returns-clause-known : goal.returns-clause-known
returns-clause-known c = rw (c.in_ok-new_deferred.ensures, c.in_ok-interrupts_of.ensures) (declared_known c.args.script.now)
