-- When nothing failed.
use Rattle.std.specs.Prelude.{ℕ}
use Rattle.edge_io.specs.Faults.{Rose}

-- a count of faults didn't rise
abbrev pub Stayed : ℕ → ℕ → Type 0
Stayed before after = Rose before after → ⊥
