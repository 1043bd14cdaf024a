use Rattle.std.proofs.Common.{◌≡◌, ℕ, replicate, rules, arith}
use Rattle.std.specs.Prelude.{Option, None}
use Rattle.sym_base.specs.declared.number.ObjNo.{ObjNo}
use Rattle.state_rows.proofs.Soundness.{sound_new}
use Rattle.nano_sync.proofs.sync.NanoSync.new.Goals as goal

pub invariant_of-result : goal.invariant_of-result
invariant_of-result c =
    let signals : c.in_ok-signals.signals.items ≡ replicate {A = ℕ} c.args.threads 0 = search rules in
    let suspensions : c.in_ok-suspensions.suspensions.items ≡ replicate {A = ℕ} c.args.threads 0 = search rules in
    let sections : c.in_ok-sections.sections.items ≡ replicate {A = ℕ} c.args.threads 0 = search rules in
    let wants : c.in_ok-wants.wants.items ≡ replicate {A = Option ℕ} c.args.threads None = search rules in
    let holders : c.in_ok-holders.holders.items ≡ replicate {A = Option ObjNo} c.args.fast None = search rules in
    rw (signals, suspensions, sections, wants, holders) (sound_new c.args.threads c.args.fast (omega arith))
