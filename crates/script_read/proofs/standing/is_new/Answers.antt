use Rattle.std.proofs.Common.{arith, ◌∙◌}
use Rattle.std.proofs.Math.Bool.{or_assoc}
use Rattle.script_read.proofs.ThreadNames.{threads_same}
use Rattle.script_read.proofs.standing.is_new.Goals as goal

pub returns-in-Queue-clause-new : goal.returns-in-Queue-clause-new
returns-in-Queue-clause-new c =
    let listed = c.requires.threads c.in-Queue.name c.add_name.ensures.text in
    rw c.in-Queue.is (rw (listed, ← or_assoc) at c.add_name.ensures.new)

pub returns-in-KernelThread-clause-new : goal.returns-in-KernelThread-clause-new
returns-in-KernelThread-clause-new c =
    let listed = c.requires.threads c.in-KernelThread.name c.add_name-in-KernelThread.ensures.text in
    rw c.in-KernelThread.is (rw (listed, ← or_assoc) at c.add_name-in-KernelThread.ensures.new)

pub returns-in-Thread-clause-new : goal.returns-in-Thread-clause-new
returns-in-Thread-clause-new c =
    let listed = c.requires.threads c.in-Thread.name c.add_name-in-Thread.ensures.text in
    rw c.in-Thread.is (rw (listed, ← or_assoc) at c.add_name-in-Thread.ensures.new)

pub returns-in_default-clause-listed : goal.returns-in_default-clause-listed
returns-in_default-clause-listed c = λ passes. record {
  threads = λ name text. c.requires.threads name text ∙ grind (arith, threads_same);
  processes = λ name text. c.requires.processes name text ∙ grind arith;
  dfcs = λ name text. c.requires.dfcs name text ∙ grind arith;
  idfcs = λ name text. c.requires.idfcs name text ∙ grind arith;
}
