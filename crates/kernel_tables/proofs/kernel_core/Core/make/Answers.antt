use Rattle.std.proofs.Common.{arith}
use Rattle.kernel_tables.proofs.kernel_core.Core.make.Goals as goal

pub perform-requires-clause-few : goal.perform-requires-clause-few
perform-requires-clause-few g c = λ keep. let few = c.requires.goes.few keep in rw c.requires.empty (omega arith)

pub returns : goal.returns
returns g c = record {
  made = record {
    decided = c.perform.ensures.decision;
    notes = c.perform.ensures.notes;
    went = c.requires.goes.each c.perform.new.self.state.mode.keep;
    performed = rw c.requires.empty at c.perform.ensures.performed;
  };
  own = c.perform.ensures.own;
}
