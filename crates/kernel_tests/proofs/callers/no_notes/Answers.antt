use Rattle.std.proofs.Common.{◌∙◌, List, None, Option, ap, get_or}
use Rattle.ref_words.specs.declared.slip.Slip.{Slip}
use Rattle.kernel_tests.proofs.CallersKeep.{blank-push}
use Rattle.kernel_tests.proofs.callers.no_notes.Goals as goal

pub loop-thread-preserved : goal.loop-thread-preserved
loop-thread-preserved c = λ t.
    ap (λ (l : List (Option Slip)). get_or l t None) c.in_ok-push.ensures.items ∙ (blank-push c.loop-thread.notes.items t ∙ c.loop-thread.invariant t)
