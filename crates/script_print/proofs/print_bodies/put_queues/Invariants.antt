use Rattle.std.proofs.Common.{◌≡◌, ◌++◌, map, take}
use Rattle.script_print.specs.CanonicalText.{source_texts, queue_line}
use Rattle.script_print.proofs.print_bodies.put_queues.Given as goal

-- the lines so far
abbrev pub invariant-loop-queue : goal.invariant-loop-queue
invariant-loop-queue l = l.out.items ≡ l.fn.out.items ++ source_texts (map queue_line (take l.queue-index l.queues))
