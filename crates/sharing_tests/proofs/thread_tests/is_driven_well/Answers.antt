use Rattle.std.proofs.Common.{◌≡◌, ◌∙◌, ap, subst, map, ℕ, ◌<◌}
use Rattle.turn_lock.specs.LockId.{LockId}
use Rattle.turn_lock.specs.Passes.{caller_of}
use Rattle.turn_lock.proofs.Dealing.{contains_number}
use Rattle.shared_kernel.specs.declared.base.KernelBase.{KernelBase}
use Rattle.sharing_tests.proofs.thread_tests.is_driven_well.Goals as goal

pub finish-requires-clause-all : goal.finish-requires-clause-all
finish-requires-clause-all g c =
    let made = c.in_ok-kernel.ensures in
    let done = c.in_ok-passes.ensures in
    let many : c.into_inner.result.passes ≡ 4 =
    ap (λ (k : LockId KernelBase). k.passes) (c.into_inner.ensures ∙ c.in_ok-kernel-2.ensures.ok) ∙ made.passes in
    λ caller low. contains_number (map caller_of c.in_ok-passes.passes.items) 4 caller (done.callers ∙ made.callers)
    (subst (λ (n : ℕ). caller < n) many low)
