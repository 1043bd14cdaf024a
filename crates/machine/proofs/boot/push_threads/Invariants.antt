use Rattle.std.proofs.Common.{◌≡◌, ◌+◌, ◌≤◌, ◌++◌, drop, vec_len}
use Rattle.machine.specs.Boot.{born_threads}
use Rattle.machine.proofs.boot.push_threads.Given as goal

abbrev pub invariant-loop-k : goal.invariant-loop-k
invariant-loop-k l = record {
  rest : l.all.items ++ born_threads l.process l.number.0 (l.first + l.k) (drop l.k l.threads)
      ≡ l.initial.all.items ++ born_threads l.process l.number.0 l.first l.threads;
  few : vec_len l.all ≤ vec_len l.initial.all + l.k;
}
