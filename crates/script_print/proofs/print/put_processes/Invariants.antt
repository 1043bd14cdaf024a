use Rattle.std.proofs.Common.{◌≡◌, ◌++◌, drop}
use Rattle.script_print.specs.CanonicalText.{source_texts, processes_lines}
use Rattle.script_print.proofs.print.put_processes.Given as goal

-- the lines so far, and those of the processes that are left
abbrev pub invariant-loop-number : goal.invariant-loop-number
invariant-loop-number l =
    l.out.items ++ source_texts (processes_lines l.threads l.number (drop l.number l.processes))
    ≡ l.fn.out.items ++ source_texts (processes_lines l.threads 0 l.processes)
