-- A source or a sink over a standard reader or writer.
use Rattle.std.specs.Prelude.{ℕ}

-- the reader or the writer, and the count of its faults
pub record Adapted (T : Type 0) : Type 0 where
  pub inner : T
  pub faults : ℕ
