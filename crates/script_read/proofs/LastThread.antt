-- The last thread takes one more instruction.
use Rattle.std.proofs.Common.{◌≡◌, ℕ, zero, suc, ◌-◌, ◌<◌, List, [], ◌∷◌, ◌++◌, length, get_or, refl, ap, arith, Some}
use Rattle.std.specs.Prelude.{slice_get, slice_set}
use Rattle.script_types.specs.Context.{with_instr}
use Rattle.script_types.specs.Stands.{last_instrs}
use Rattle.script_types.specs.declared.declaration.ThreadDecl.{ThreadDecl}
use Rattle.script_types.specs.declared.instruction.Instr.{Instr}

pub with_instr_none : (threads : List ThreadDecl) (what : Instr) → length threads ≡ 0 → threads ≡ with_instr threads what
with_instr_none [] what h = refl
with_instr_none (t ∷ ts) what h = absurd (omega arith)

last_by : (threads : List ThreadDecl) (what : Instr) (last : ThreadDecl) (n : ℕ) → length threads ≡ suc n
    → slice_get threads n ≡ Some last
    → slice_set threads n (record last { instrs = last.instrs ++ what ∷ [] }) ≡ with_instr threads what
last_by [] what last n size h = absurd (omega arith)
last_by (t ∷ []) what last zero size h = let same : last ≡ t = cc in ap (λ (d : ThreadDecl). record d { instrs = d.instrs ++ what ∷ [] } ∷ []) same
last_by (t ∷ []) what last (suc n) size h = absurd (omega arith)
last_by (t ∷ u ∷ ts) what last zero size h = absurd (omega arith)
last_by (t ∷ u ∷ ts) what last (suc n) size h = ap (λ (ds : List ThreadDecl). t ∷ ds) (last_by (u ∷ ts) what last n (omega arith) h)

pub with_instr_last : (threads : List ThreadDecl) (what : Instr) (last : ThreadDecl) (n count : ℕ)
    → count ≡ length threads → n ≡ count - 1 → 0 < length threads → slice_get threads n ≡ Some last
    → slice_set threads n (record last { instrs = last.instrs ++ what ∷ [] }) ≡ with_instr threads what
with_instr_last threads what last n count same is some h = last_by threads what last n (omega arith) h

-- the instructions of the last thread
instrs_by : (threads : List ThreadDecl) (n : ℕ) (other : ThreadDecl) → length threads ≡ suc n → length (get_or threads n other).instrs ≡ last_instrs threads
instrs_by [] n other size = absurd (omega arith)
instrs_by (t ∷ []) zero other size = refl
instrs_by (t ∷ []) (suc n) other size = absurd (omega arith)
instrs_by (t ∷ u ∷ ts) zero other size = absurd (omega arith)
instrs_by (t ∷ u ∷ ts) (suc n) other size = instrs_by (u ∷ ts) n other (omega arith)

pub last_instrs_at : (threads : List ThreadDecl) (other : ThreadDecl) → 0 < length threads
    → length (get_or threads (length threads - 1) other).instrs ≡ last_instrs threads
last_instrs_at threads other some = instrs_by threads (length threads - 1) other (omega arith)

pub last_instrs_none : (threads : List ThreadDecl) → length threads ≡ 0 → 0 ≡ last_instrs threads
last_instrs_none [] h = refl
last_instrs_none (t ∷ ts) h = absurd (omega arith)
