-- In which way a kernel may be called.
use Rattle.std.proofs.Common.{◌≡◌, ◌∙◌, Bool, true, false, sym}
use Rattle.kcore.specs.KernelMode.{KernelMode, Fresh, Split, Suits, Whole}

-- one without entries in either
pub fresh-suits : (shared : Bool) (mode : KernelMode) → mode ≡ Fresh → Suits shared mode
fresh-suits false mode fresh = λ split. let clash : Fresh ≡ Split = sym fresh ∙ split in cc
fresh-suits true mode fresh = λ whole. let clash : Fresh ≡ Whole = sym fresh ∙ whole in cc

-- one that one caller had alone by one alone, and one that callers shared by those who share it
pub whole-suits : (mode : KernelMode) → mode ≡ Whole → Suits false mode
whole-suits mode whole = λ split. let clash : Whole ≡ Split = sym whole ∙ split in cc

pub split-suits : (mode : KernelMode) → mode ≡ Split → Suits true mode
split-suits mode split = λ whole. let clash : Split ≡ Whole = sym split ∙ whole in cc
