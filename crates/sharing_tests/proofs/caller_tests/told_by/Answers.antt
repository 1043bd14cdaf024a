use Rattle.std.proofs.Common.{◌≡◌, ◌∙◌, ◌++◌, ◌∷◌, ◌<◌, [], ap, arith, subst, sym, ℕ, List}
use Rattle.turn_lock.specs.LockId.{LockId}
use Rattle.turn_lock.specs.declared.pass.Pass.{Pass}
use Rattle.turn_lock.specs.Passes.{IsFree}
use Rattle.shared_kernel.specs.declared.base.KernelBase.{KernelBase}
use Rattle.sharing_tests.proofs.ThreePasses.{one-fewer, three-all, three-many, three-taken}
use Rattle.sharing_tests.proofs.caller_tests.told_by.Goals as goal

pub take_pass-third-requires : goal.take_pass-third-requires
take_pass-third-requires g c = let many = three-many c.in_ok-kernel.passes.items c.in_ok-kernel.ensures.callers in omega arith

pub take_pass-second-requires : goal.take_pass-second-requires
take_pass-second-requires g c =
    let two = one-fewer c.in_ok-kernel.passes.items c.take_pass-third.new.passes.items c.take_pass-third.result 2
    c.take_pass-third.ensures (three-many c.in_ok-kernel.passes.items c.in_ok-kernel.ensures.callers) in
    omega arith

pub take_pass-first-requires : goal.take_pass-first-requires
take_pass-first-requires g c =
    let two = one-fewer c.in_ok-kernel.passes.items c.take_pass-third.new.passes.items c.take_pass-third.result 2
    c.take_pass-third.ensures (three-many c.in_ok-kernel.passes.items c.in_ok-kernel.ensures.callers) in
    let one = one-fewer c.take_pass-third.new.passes.items c.take_pass-second.new.passes.items c.take_pass-second.result 1 c.take_pass-second.ensures two in
    omega arith

pub is_told-well-requires : goal.is_told-well-requires
is_told-well-requires g c =
    let made = c.in_ok-kernel.ensures in
    let is = c.take_pass-third.ensures ∙ ap (λ (l : List (Pass KernelBase)). l ++ c.take_pass-third.result ∷ [])
    (c.take_pass-second.ensures ∙ ap (λ (l : List (Pass KernelBase)). l ++ c.take_pass-second.result ∷ []) c.take_pass-first.ensures) in
    let taken = three-taken (IsFree c.in_ok-kernel.kernel) c.in_ok-kernel.passes.items c.take_pass-first.new.passes.items
    c.take_pass-first.result c.take_pass-second.result c.take_pass-third.result is made.callers made.free in
    let same : c.deref.result.now ≡ c.in_ok-kernel.kernel = c.deref.ensures ∙ c.in_ok-kernel-2.ensures.ok in
    record {
      free =
          subst (λ (k : LockId KernelBase). IsFree k c.take_pass-first.result × IsFree k c.take_pass-second.result × IsFree k c.take_pass-third.result)
          (sym same) taken.each;
    }

pub finish-requires-clause-all : goal.finish-requires-clause-all
finish-requires-clause-all g c =
    let made = c.in_ok-kernel.ensures in
    let did = c.is_told-well.ensures in
    let is = c.take_pass-third.ensures ∙ ap (λ (l : List (Pass KernelBase)). l ++ c.take_pass-third.result ∷ [])
    (c.take_pass-second.ensures ∙ ap (λ (l : List (Pass KernelBase)). l ++ c.take_pass-second.result ∷ []) c.take_pass-first.ensures) in
    let taken = three-taken (IsFree c.in_ok-kernel.kernel) c.in_ok-kernel.passes.items c.take_pass-first.new.passes.items
    c.take_pass-first.result c.take_pass-second.result c.take_pass-third.result is made.callers made.free in
    let many : c.into_inner.result.passes ≡ 3 =
    ap (λ (k : LockId KernelBase). k.passes) (c.into_inner.ensures ∙ c.in_ok-kernel-2.ensures.ok) ∙ made.passes in
    λ caller low. three-all c.in_ok-back.back.items c.is_told-well.new.first c.is_told-well.new.second c.is_told-well.new.third
    c.in_ok-back.ensures (did.callers.0 ∙ taken.callers.0) (did.callers.1 ∙ taken.callers.1) (did.callers.2 ∙ taken.callers.2) caller
    (subst (λ (n : ℕ). caller < n) many low)
