-- What holds of the rows of threads that synchronize.
use Rattle.std.specs.Prelude.{◌≡◌, ℕ, ◌<◌, ◌≤◌, Some, length}
use Rattle.sym_base.specs.declared.number.ObjNo.{ObjNo}
use Rattle.state_rows.specs.declared.nano.NanoRows.{NanoRows}
use Rattle.state_rows.specs.Nano.{suspend_count, want_of, holder_of}

-- every thread has each of its rows; there are fewer than 256 fast mutexes, which a wanted one is among,
-- as a holder is among the threads; a suspend count is at most 127; and no thread holds two fast mutexes
pub record AreNanoRows (r : NanoRows) : Type 0 where
  pub suspensions_sized : length r.suspensions ≡ length r.signals
  pub sections_sized : length r.sections ≡ length r.signals
  pub wants_sized : length r.wants ≡ length r.signals
  pub few : length r.holders < 256
  pub wants_known : (t : ObjNo) (f : ℕ) → want_of r t ≡ Some f → f < length r.holders
  pub holders_known : (f : ℕ) (t : ObjNo) → holder_of r f ≡ Some t → t.0 < length r.signals
  pub limited : (t : ObjNo) → suspend_count r t ≤ 127
  pub one_each : (f g : ℕ) (t : ObjNo) → holder_of r f ≡ Some t → holder_of r g ≡ Some t → f ≡ g
