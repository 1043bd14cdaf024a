-- The function of a message that an instruction sends is one of 31 bits, and an argument that it copies from or to one of four.
use Rattle.std.proofs.Common.{◌≡◌, ℕ, ◌<◌, true, subst, arith}
use Rattle.script_types.specs.declared.instruction.Args.{Args}
use Rattle.script_types.specs.declared.instruction.Instr.{Instr}
use Rattle.script_types.specs.declared.instruction.Instr.TheVariants as instr
use Rattle.script_types.specs.declared.source_line.SourceLine.TheVariants as line
use Rattle.script_types.specs.Forms.{instr_form}
use Rattle.script_types.specs.Ranges.{is_source_line}
use Rattle.script_types.proofs.LimitLaws.{in_form, number_in}

pub send_small : (what : Instr) (x function s : ℕ) (args : Args) → what ≡ instr.Send x function s args
    → is_source_line (line.Instr what) ≡ true → function < 2147483648
send_small what x function s args is ranges =
    let h = subst (λ (w : Instr). is_source_line (line.Instr w) ≡ true) is ranges in
    let v = in_form (instr_form (instr.Send x function s args)) h in
    let few = (number_in 0 2147483647 function v.0.1.0).1 in omega arith

pub call_small : (what : Instr) (x function : ℕ) (args : Args) → what ≡ instr.Call x function args
    → is_source_line (line.Instr what) ≡ true → function < 2147483648
call_small what x function args is ranges =
    let h = subst (λ (w : Instr). is_source_line (line.Instr w) ≡ true) is ranges in
    let v = in_form (instr_form (instr.Call x function args)) h in
    let few = (number_in 0 2147483647 function v.0.1.0).1 in omega arith

pub read_small : (what : Instr) (x arg offset long at : ℕ) → what ≡ instr.Read x arg offset long at → is_source_line (line.Instr what) ≡ true → arg < 4
read_small what x arg offset long at is ranges =
    let h = subst (λ (w : Instr). is_source_line (line.Instr w) ≡ true) is ranges in
    let v = in_form (instr_form (instr.Read x arg offset long at)) h in
    let few = (number_in 0 3 arg v.0.1.0).1 in omega arith

pub write_small : (what : Instr) (x arg offset long from : ℕ) → what ≡ instr.Write x arg offset long from → is_source_line (line.Instr what) ≡ true → arg < 4
write_small what x arg offset long from is ranges =
    let h = subst (λ (w : Instr). is_source_line (line.Instr w) ≡ true) is ranges in
    let v = in_form (instr_form (instr.Write x arg offset long from)) h in
    let few = (number_in 0 3 arg v.0.1.0).1 in omega arith
