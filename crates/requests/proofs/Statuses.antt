-- What each status is after one of them was written.
use Rattle.std.proofs.Common.{◌≡◌, ◌≢◌, ℕ, ℤ, ◌<◌, [], length, get_or, refl, get_or-set_same, get_or-set_other}
use Rattle.sym_base.specs.declared.number.ObjNo.{ObjNo}
use Rattle.state_rows.specs.declared.requests.RequestRows.{RequestRows}
use Rattle.state_rows.specs.Requests.{value_of}
use Rattle.state_rows.specs.RequestChanges.{with_status}

-- the status that was written
pub value_of-written : (r : RequestRows) (t : ObjNo) (s : ℕ) (value : ℤ) → t.0 < length r.statuses
    → s < length (get_or r.statuses t.0 [])
    → value_of (record r { statuses = with_status r.statuses t s value }) t s ≡ value
value_of-written r t s value inside within = rw (get_or-set_same, get_or-set_same) refl

-- another status of the same thread
pub value_of-beside : (r : RequestRows) (t : ObjNo) (s other : ℕ) (value : ℤ) → t.0 < length r.statuses → other ≢ s
    → value_of (record r { statuses = with_status r.statuses t s value }) t other ≡ value_of r t other
value_of-beside r t s other value inside apart = rw (get_or-set_same, get_or-set_other) refl

-- a status of another thread
pub value_of-apart : (r : RequestRows) (t u : ObjNo) (s other : ℕ) (value : ℤ) → u.0 ≢ t.0
    → value_of (record r { statuses = with_status r.statuses t s value }) u other ≡ value_of r u other
value_of-apart r t u s other value apart = rw get_or-set_other refl
