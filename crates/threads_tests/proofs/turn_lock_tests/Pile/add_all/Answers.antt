use Rattle.std.proofs.Common.{◌∙◌, refl}
use Rattle.turn_lock.proofs.Logs.{begins_itself, begins_on}
use Rattle.threads_tests.proofs.turn_lock_tests.Pile.add_all.Goals as goal

pub loop-k-init : goal.loop-k-init
loop-k-init c = record { name = refl; made = begins_itself _ }

pub loop-k-preserved : goal.loop-k-preserved
loop-k-preserved c = record { name = c.add.ensures.name ∙ c.loop-k.invariant.name; made = begins_on _ _ _ c.loop-k.invariant.made c.add.ensures.made }
