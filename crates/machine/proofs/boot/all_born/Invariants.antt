use Rattle.std.proofs.Common.{◌≡◌, ◌+◌, ◌*◌, ◌≤◌, ◌++◌, drop, vec_len}
use Rattle.machine.specs.Boot.{born, born_processes}
use Rattle.machine.proofs.boot.all_born.Given as goal

abbrev pub invariant-loop-j : goal.invariant-loop-j
invariant-loop-j l = record {
  rest : l.all.items ++ born_processes l.script.threads l.j (vec_len l.all) (drop l.j l.script.processes) ≡ born l.script;
  few : vec_len l.all ≤ 128 + 64 * l.j;
}
