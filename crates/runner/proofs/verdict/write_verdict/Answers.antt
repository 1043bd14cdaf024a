use Rattle.edge_io.proofs.Writing.{wrote_nothing}
use Rattle.runner.proofs.verdict.write_verdict.Goals as goal

pub returns-in-NoMemory-clause-whole : goal.returns-in-NoMemory-clause-whole
returns-in-NoMemory-clause-whole g c = rw c.in-NoMemory.is (wrote_nothing (g.K.Sink.written c.args.sink.now))
