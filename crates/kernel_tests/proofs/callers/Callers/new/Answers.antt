use Rattle.std.proofs.Common.{ap}
use Rattle.ref_words.specs.Words.{Words}
use Rattle.kcore.specs.KernelView.{KernelView}
use Rattle.kernel_tests.proofs.CallersKeep.{callers-begin}
use Rattle.kernel_tests.proofs.callers.Callers.new.Goals as goal

pub invariant_of-callers : goal.invariant_of-callers
invariant_of-callers c =
    let booted = c.in_ok-kernel.ensures.kernel in
    callers-begin 1000 c.in_ok-kernel.kernel c.in_ok-notes.notes.items (ap (λ (k : KernelView Words). k.mode) booted)
    (ap (λ (k : KernelView Words). k.room) booted) c.in_ok-notes.ensures
