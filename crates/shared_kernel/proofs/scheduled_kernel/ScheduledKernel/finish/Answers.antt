use Rattle.std.proofs.Common.{◌≡◌, ◌∙◌, ap, sym, subst}
use Rattle.script_types.specs.declared.script.Script.{Script}
use Rattle.entry_log.specs.declared.entry.Entry.{Entry}
use Rattle.ref_words.specs.Words.{Words}
use Rattle.turn_lock.specs.LockId.{LockId}
use Rattle.kcore.specs.KernelView.{KernelView}
use Rattle.shared_kernel.specs.declared.base.KernelBase.{KernelBase}
use Rattle.shared_kernel.specs.Values.{base_of}
use Rattle.shared_kernel.proofs.scheduled_kernel.ScheduledKernel.finish.Goals as goal

pub close-requires : goal.close-requires
close-requires c = record { free = rw c.self.view_is c.requires.free; all = rw c.self.view_is c.requires.all }

pub returns : goal.returns
returns c =
    let same = c.into_kernel.ensures.kernel in
    let base : base_of c.into_kernel.result ≡ c.args.self.base = ap base_of same ∙ c.close.ensures.base
    ∙ ap (λ (l : LockId KernelBase). l.base) c.self.view_is in
    let whole = c.close.ensures.whole in
    record {
      script = ap (λ (b : KernelBase). b.script) base;
      mode = c.into_kernel.ensures.mode;
      part = c.into_kernel.ensures.part;
      safe = c.into_kernel.ensures.safe;
      whole = (whole.0, ap (λ (k : KernelView Words). k.history) same ∙ whole.1, whole.2);
    }
