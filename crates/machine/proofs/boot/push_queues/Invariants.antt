use Rattle.std.proofs.Common.{◌≡◌, ◌+◌, ◌≤◌, ◌++◌, drop, vec_len}
use Rattle.machine.specs.Boot.{born_queues}
use Rattle.machine.proofs.boot.push_queues.Given as goal

abbrev pub invariant-loop-k : goal.invariant-loop-k
invariant-loop-k l = record {
  rest : l.all.items ++ born_queues (l.k + 1) (drop l.k l.queues) ≡ l.initial.all.items ++ born_queues 1 l.queues;
  few : vec_len l.all ≤ vec_len l.initial.all + l.k;
}
