-- The number of all instructions, line by line.
use Rattle.std.proofs.Common.{◌≡◌, ℕ, ◌+◌, ◌<◌, true, List, [], ◌∷◌, ◌++◌, length, length-append, refl, arith, Some, None}
use Rattle.std.proofs.lemmas.Bool.{ltb-true}
use Rattle.std.proofs.lemmas.Bool.Decides.{nat_tests}
use Rattle.std.specs.List.{fold}
use Rattle.std.specs.Prelude.{IsTrue, nat_lt, if◌then◌else◌}
use Rattle.script_read.specs.Counts.{adds_instr}
use Rattle.script_words.proofs.Steps.{both}
use Rattle.script_types.specs.Context.{after, with_instr, last_of}
use Rattle.script_types.specs.Stands.{all_instrs, last_instrs, is_within}
use Rattle.script_types.specs.declared.context.Context.{Context}
use Rattle.script_types.specs.declared.declaration.ThreadDecl.{ThreadDecl}
use Rattle.script_types.specs.declared.instruction.Instr.{Instr}
use Rattle.script_types.specs.declared.source_line.SourceLine.{SourceLine}
use Rattle.script_types.specs.declared.source_line.SourceLine.TheVariants as line

-- the instructions of threads behind so many others
abbrev instrs_from : ℕ → List ThreadDecl → ℕ
instrs_from n threads = fold (λ (m : ℕ) (t : ThreadDecl). m + length t.instrs) n threads

-- a thread without instructions
none_more : (threads : List ThreadDecl) (t : ThreadDecl) (n : ℕ) → length t.instrs ≡ 0 → instrs_from n (threads ++ t ∷ []) ≡ instrs_from n threads
none_more [] t n none = omega arith
none_more (u ∷ us) t n none = none_more us t (n + length u.instrs) none

-- one more of the last thread
one_more : (threads : List ThreadDecl) (what : Instr) (n : ℕ) → 0 < length threads → instrs_from n (with_instr threads what) ≡ instrs_from n threads + 1
one_more [] what n some = absurd (omega arith)
one_more (t ∷ []) what n some = omega (arith, length-append t.instrs (what ∷ []))
one_more (t ∷ u ∷ us) what n some = one_more (u ∷ us) what (n + length t.instrs) (omega arith)

-- what a line makes of them
with_instr_counts : (threads : List ThreadDecl) (what : Instr)
    → all_instrs (with_instr threads what) ≡
    (if nat_lt 0 (length threads) then all_instrs threads + 1 else all_instrs threads)
with_instr_counts [] what = refl
with_instr_counts (t ∷ ts) what =
    let some : nat_lt 0 (length (t ∷ ts)) ≡ true = grind (arith, nat_tests) in
    rw some (one_more (t ∷ ts) what 0 (omega arith))

pub instrs_after : (c : Context) (l : SourceLine)
    → all_instrs (after c l).script.threads
    ≡ (if adds_instr c l then all_instrs c.script.threads + 1 else all_instrs c.script.threads)
instrs_after c (line.Instr what) = with_instr_counts c.script.threads what
instrs_after c (line.KernelThread name priority held) =
    none_more c.script.threads (record { name = name; priority = priority; held = held; process = None; instrs = [] }) 0
    refl
instrs_after c (line.Thread name priority held) =
    none_more c.script.threads (record {
      name = name;
      priority = priority;
      held = held;
      process = Some (last_of c.script.processes);
      instrs = [];
    }) 0 refl
instrs_after c _ = refl

-- where a line adds one there is room for it
pub has_room : (c : Context) (l : SourceLine) → adds_instr c l ≡ true → IsTrue (is_within c l) → all_instrs c.script.threads < 65536
has_room c (line.Instr what) adds within =
    let parts = both (nat_lt (last_instrs c.script.threads) 16384) (nat_lt (all_instrs c.script.threads) 65536) within in
    ltb-true (all_instrs c.script.threads) 65536 parts.1
has_room c _ adds within = absurd (cc)
