use Rattle.std.proofs.Common.{take}
use Rattle.kcore.specs.BootTable.{born_priority}
use Rattle.kernel_tables.specs.ReadyQueues.{AreReady}
use Rattle.kcore.proofs.boot.queues_of.Given as goal

abbrev pub invariant-loop-thread : goal.invariant-loop-thread
invariant-loop-thread l = AreReady (born_priority l.all) (take l.thread-index l.threads) l.list
