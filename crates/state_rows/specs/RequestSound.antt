-- What holds of the rows of requests.
use Rattle.std.specs.Prelude.{◌≡◌, ℕ, ◌<◌, Some, [], length, slice_index_or}
use Rattle.sym_base.specs.declared.number.ObjNo.{ObjNo}
use Rattle.state_rows.specs.declared.requests.Request.{Request}
use Rattle.state_rows.specs.declared.requests.RequestRows.{RequestRows}
use Rattle.state_rows.specs.Requests.{request_at}

-- a thread and a status of the rows
abbrev pub IsKnown : RequestRows → ObjNo → ℕ → Type 0
IsKnown r t s = (t.0 < length r.signals) × (s < 16)

-- every thread has each of its rows, sixteen statuses among them, and the request that a device has is of a
-- thread and a status of the rows
pub record AreRequestRows (r : RequestRows) : Type 0 where
  pub statuses_sized : length r.statuses ≡ length r.signals
  pub replies_sized : length r.replies ≡ length r.signals
  pub sixteen : (t : ℕ) → t < length r.signals → length (slice_index_or r.statuses t []) ≡ 16
  pub requests_known : (d : ℕ) (request : Request) → request_at r d ≡ Some request → IsKnown r request.thread request.status
