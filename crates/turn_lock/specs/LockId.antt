-- Which lock it is.
use Rattle.std.specs.Prelude.{ℕ}
use Rattle.atomic_table.specs.Seated.{TableId}

-- its table, the base of its value, which never changes, and how many passes it was made with
pub record LockId (B : Type 0) : Type 0 where
  pub table : TableId
  pub base : B
  pub passes : ℕ
