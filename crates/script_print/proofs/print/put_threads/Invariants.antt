use Rattle.std.proofs.Common.{◌≡◌, ◌++◌, take}
use Rattle.std.specs.List.{flat_map}
use Rattle.script_print.specs.CanonicalText.{source_texts, thread_lines, threads_of}
use Rattle.script_print.proofs.print.put_threads.Given as goal

-- the lines so far
abbrev pub invariant-loop-thread : goal.invariant-loop-thread
invariant-loop-thread l = l.out.items ≡ l.fn.out.items ++ source_texts (flat_map thread_lines (threads_of l.owner (take l.thread-index l.threads)))
