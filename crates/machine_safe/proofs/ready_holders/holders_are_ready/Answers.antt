use Rattle.machine_safe.proofs.ReadyHolders.{holders_ready, chosen_able}
use Rattle.machine_safe.proofs.ready_holders.holders_are_ready.Goals as goal

pub returns : goal.returns
returns c = record {
  ready = λ shared. holders_ready shared c.args.script.now c.args.history.now c.requires.valid;
  able = λ shared. chosen_able shared c.args.script.now c.args.history.now c.requires.valid;
}
