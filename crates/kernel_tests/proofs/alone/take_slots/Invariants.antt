use Rattle.std.proofs.Common.{◌≡◌, false, length}
use Rattle.kcore.specs.KernelMode.{Suits}
use Rattle.kernel_tests.proofs.alone.take_slots.Given as goal

-- nobody shares the kernel, and each slot that is behind has its entry
abbrev pub invariant-loop-slot : goal.invariant-loop-slot
invariant-loop-slot l = record {
  script : l.kernel.script ≡ l.fn.kernel.script;
  alone : Suits false l.kernel.mode;
  room : l.kernel.room ≡ length l.fn.kernel.script.slots;
  count : length l.kernel.history ≡ l.slot-index;
}
