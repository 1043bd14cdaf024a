-- Whether there is room for an entry and a return.
use Rattle.std.proofs.Common.{◌≡◌, ◌∙◌, sym, refl, arith, ℕ, ◌+◌, ◌≤◌, ◌<◌, List, length, Bool, true, false}
use Rattle.std.proofs.lemmas.Bool.Decides.{nat_tests}
use Rattle.std.specs.Prelude.{nat_lt}
use Rattle.machine.specs.History.{after_in}
use Rattle.machine_safe.specs.FindsAndReturns.{away}
use Rattle.ref_words.specs.Words.{Words}
use Rattle.kcore.specs.KernelView.{KernelView}
use Rattle.shared_kernel.specs.Does.{claimed, IsFull}

more-than : (m n : ℕ) → nat_lt m n ≡ true → m < n
more-than m n is = grind (arith, nat_tests)

at-most : (m n : ℕ) → nat_lt m n ≡ false → n ≤ m
at-most m n is = grind (arith, nat_tests)

module _ (k : KernelView Words) (made out : ℕ) (entries : made ≡ length k.history)
    (outs : out ≡ away (after_in true k.script k.history)) (many : out ≡ length k.notes.out) where
  -- it is told by the entries and those who are out
  pub full-is : nat_lt 131072 (made + out + 2) ≡ true → IsFull k.script k.history k.history made out
  full-is is = let more = more-than 131072 (made + out + 2) is in record { same = refl; made = entries; back = outs; many = omega arith }

  pub room-is : nat_lt 131072 (made + out + 2) ≡ false → (length k.history + length k.notes.out + 2 ≤ 131072) × (claimed k.script k.history ≤ 131072)
  room-is is = let most = at-most 131072 (made + out + 2) is in (omega arith, omega arith)
