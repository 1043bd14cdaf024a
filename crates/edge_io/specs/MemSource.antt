-- A source in memory.
use Rattle.std.specs.Prelude.{ℕ, min, List, length, drop}
use Rattle.edge_io.specs.Calls.{next_call, next_fault}

-- the bytes left, the most that a call gives, the calls made, the numbers of those that fail, and the faults
pub record Supply : Type 0 where
  pub left : List ℕ
  pub step : ℕ
  pub calls : ℕ
  pub fails : List ℕ
  pub faults : ℕ

-- how many bytes a call gives that doesn't fail, to a buffer of this length
abbrev pub amount_given : Supply → ℕ → ℕ
amount_given s room = min s.step (min room (length s.left))

-- after a call that gave so many bytes
abbrev pub after_read : Supply → ℕ → Supply
after_read s n = record s { left = drop n s.left; calls = next_call s.calls }

-- after a call that failed
abbrev pub after_failed_read : Supply → Supply
after_failed_read s = record s { calls = next_call s.calls; faults = next_fault s.faults }
