-- Counts of faults over several calls.
use Rattle.std.proofs.Common.{ℕ, ◌≤◌, inl, inr, arith}
use Rattle.edge_io.specs.Faults.{Rose}

-- a count that rose had not fallen before
pub rose_later : (a b c : ℕ) → a ≤ b → Rose b c → Rose a c
rose_later a b c h rose = elim rose [ inl below ↦ inl (omega arith) | inr last ↦ inr last ]

-- a count that rose doesn't fall afterwards
pub rose_before : (a b c : ℕ) → a ≤ b → Rose a b → b ≤ c → Rose a c
rose_before a b c h rose k = grind arith
