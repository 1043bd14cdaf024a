use Rattle.std.proofs.Common.{◌≡◌, ◌∙◌, ap, sym, subst, List, length, arith, refl, []}
use Rattle.script_types.specs.declared.script.Script.{Script}
use Rattle.entry_log.specs.declared.entry.Entry.{Entry}
use Rattle.machine.specs.SharedRun.{slots_taken, IsSharedPart}
use Rattle.machine_laws.proofs.Sharing.Parts.{part-none}
use Rattle.ref_words.specs.Words.{Words}
use Rattle.kcore.specs.KernelView.{KernelView}
use Rattle.shared_kernel.proofs.Shareable.{shareable-boot}
use Rattle.shared_kernel.proofs.scheduled.Scheduled.new.Goals as goal

pub invariant_of-result : goal.invariant_of-result
invariant_of-result c =
    let k = c.in_ok-kernel.kernel in
    let is = c.in_ok-kernel.ensures.kernel in
    let shareable = shareable-boot c.args.script k c.requires.valid is c.in_ok-kernel.ensures.none_out in
    let history : k.history ≡ [] = ap (λ (x : KernelView Words). x.history) is in
    let script : k.script ≡ c.args.script = ap (λ (x : KernelView Words). x.script) is in
    let none : length k.history ≡ 0 = ap length history in
    let out : length k.notes.out ≡ 0 = ap length c.in_ok-kernel.ensures.none_out in
    record {
      shareable = shareable;
      part = subst (λ (h : List Entry). IsSharedPart k.script h) (sym history) (part-none k.script);
      slots = c.in_ok-slots.ensures ∙ ap (λ (s : Script). s.slots) (sym script);
      taken = sym (ap slots_taken history);
      two = omega arith;
    }

pub returns-clause-script : goal.returns-clause-script
returns-clause-script c = ap (λ (k : KernelView Words). k.script) c.in_ok-kernel.ensures.kernel

pub returns-clause-empty : goal.returns-clause-empty
returns-clause-empty c = ap (λ (k : KernelView Words). k.history) c.in_ok-kernel.ensures.kernel
