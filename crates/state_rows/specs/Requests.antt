-- Reading the rows of requests.
use Rattle.std.specs.Prelude.{ℕ, ℤ, pos, negsuc, Bool, ◌==◌, if◌then◌else◌, [], Option, Some, None, slice_index, slice_index_or}
use Rattle.std.specs.Ordering.{int_eq}
use Rattle.sym_base.specs.declared.number.ObjNo.{ObjNo}
use Rattle.state_rows.specs.declared.requests.Request.{Request}
use Rattle.state_rows.specs.declared.requests.RequestRows.{RequestRows}

-- the value of a status whose request isn't completed
abbrev pub pending : ℤ
pending = negsuc 2147483646

-- the request that a device has to complete
abbrev pub request_at : RequestRows → ℕ → Option Request
request_at r d = slice_index_or r.devices d None

-- the status of a request, where the request is the thread's
abbrev pub status_of : ObjNo → Option Request → Option ℕ
status_of t None = None
status_of t (Some request) = if request.thread.0 == t.0 then Some request.status else None

-- the value of a thread's status
abbrev pub value_of : RequestRows → ObjNo → ℕ → ℤ
value_of r t s = slice_index_or (slice_index_or r.statuses t.0 []) s (pos 0)

-- whether a thread's status waits for its completion
abbrev pub is_pending : RequestRows → ObjNo → ℕ → Bool
is_pending r t s = int_eq (value_of r t s) pending

-- how many signals are at a thread's request semaphore
abbrev pub signal_count : RequestRows → ObjNo → ℕ
signal_count r t = slice_index r.signals t.0

-- the status of a thread's synchronous message
abbrev pub reply_of : RequestRows → ObjNo → ℤ
reply_of r t = slice_index_or r.replies t.0 (pos 0)
