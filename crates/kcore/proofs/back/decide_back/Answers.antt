use Rattle.kernel_tables.specs.StateOf.{state_of}
use Rattle.kcore.proofs.Backs.{return_decided}
use Rattle.kcore.proofs.back.decide_back.Goals as goal

pub returns-clause-decision : goal.returns-clause-decision
returns-clause-decision g c =
    rw (← c.core.view_is) (λ row word p returns. return_decided c.args.script.now
    (state_of c.core.inside.tables) c.args.thread row word p _ _ c.decide_action.ensures returns)
