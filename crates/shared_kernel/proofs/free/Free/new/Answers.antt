use Rattle.std.proofs.Common.{◌≡◌, ◌∙◌, ap, subst, sym, List, length, arith}
use Rattle.script_types.specs.Source.{IsWellFormed}
use Rattle.entry_log.specs.declared.entry.Entry.{Entry}
use Rattle.ref_words.specs.Words.{Words}
use Rattle.kcore.specs.KernelView.{KernelView}
use Rattle.shared_kernel.proofs.Shareable.{shareable-boot}
use Rattle.shared_kernel.proofs.free.Free.new.Goals as goal

pub invariant_of-result : goal.invariant_of-result
invariant_of-result c = shareable-boot c.args.script c.in_ok-kernel.kernel c.requires.valid c.in_ok-kernel.ensures.kernel c.in_ok-kernel.ensures.none_out

pub returns-clause-script : goal.returns-clause-script
returns-clause-script c = ap (λ (k : KernelView Words). k.script) c.in_ok-kernel.ensures.kernel

pub returns-clause-empty : goal.returns-clause-empty
returns-clause-empty c = ap (λ (k : KernelView Words). k.history) c.in_ok-kernel.ensures.kernel
