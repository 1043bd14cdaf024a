-- A sink in memory.
use Rattle.std.specs.Prelude.{ℕ, ◌-◌, ◌==◌, nat_lt, min, Bool, ◌&&◌, List, ◌++◌, length}
use Rattle.edge_io.specs.Calls.{next_call, next_fault}

-- the bytes written, the most bytes of all, the most that a call takes, the calls made, the numbers of those that fail, and the faults
pub record Store : Type 0 where
  pub written : List ℕ
  pub room : ℕ
  pub step : ℕ
  pub calls : ℕ
  pub fails : List ℕ
  pub faults : ℕ

-- whether a piece has bytes and finds no room
abbrev pub is_full : Store → List ℕ → Bool
is_full s piece = nat_lt 0 (length piece) && (length s.written == s.room)

-- how many bytes of a piece a call takes that doesn't fail
abbrev pub amount_taken : Store → List ℕ → ℕ
amount_taken s piece = min s.step (min (length piece) (s.room - length s.written))

-- after a call that took these bytes
abbrev pub after_write : Store → List ℕ → Store
after_write s bytes = record s { written = s.written ++ bytes; calls = next_call s.calls }

-- after a call that failed
abbrev pub after_failed_write : Store → Store
after_failed_write s = record s { calls = next_call s.calls; faults = next_fault s.faults }
