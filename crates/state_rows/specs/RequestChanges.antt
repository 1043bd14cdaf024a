-- How the rows of requests change, one equation a change.
use Rattle.std.specs.Prelude.{ℕ, ℤ, pos, ◌-◌, ◌==◌, if◌then◌else◌, List, [], Option, Some, None, is_some, map, replicate, slice_index_or, slice_set}
use Rattle.sym_base.specs.declared.number.ObjNo.{ObjNo}
use Rattle.state_rows.specs.declared.requests.Request.{Request}
use Rattle.state_rows.specs.declared.requests.RequestRows.{RequestRows}
use Rattle.state_rows.specs.NanoChanges.{one_more}
use Rattle.state_rows.specs.Requests.{pending, request_at, signal_count}

-- so many threads and devices: no request, and every status and semaphore is 0
abbrev pub new_rows : ℕ → ℕ → RequestRows
new_rows threads devices = record {
  devices = replicate devices None;
  statuses = replicate threads (replicate 16 (pos 0));
  signals = replicate threads 0;
  replies = replicate threads (pos 0);
}

-- the device has the request, where it had none before
abbrev pub after_begin : RequestRows → ℕ → ObjNo → ℕ → RequestRows
after_begin r d t s = record r { devices = if is_some (request_at r d) then r.devices else slice_set r.devices d (Some (record { thread = t; status = s })) }

-- the device has no request
abbrev pub after_finish : RequestRows → ℕ → RequestRows
after_finish r d = record r { devices = slice_set r.devices d None }

-- a request, unless it is the thread's
abbrev pub without : ObjNo → Option Request → Option Request
without t None = None
without t (Some request) = if request.thread.0 == t.0 then None else Some request

-- the device has no request of the thread
abbrev pub after_cancel : RequestRows → ℕ → ObjNo → RequestRows
after_cancel r d t = record r { devices = slice_set r.devices d (without t (request_at r d)) }

-- no device has a request of the thread
abbrev pub after_drop : RequestRows → ObjNo → RequestRows
after_drop r t = record r { devices = map (without t) r.devices }

-- all statuses, of which a thread's one has another value
abbrev pub with_status : List (List ℤ) → ObjNo → ℕ → ℤ → List (List ℤ)
with_status statuses t s value = slice_set statuses t.0 (slice_set (slice_index_or statuses t.0 []) s value)

-- the status is pending
abbrev pub after_set_pending : RequestRows → ObjNo → ℕ → RequestRows
after_set_pending r t s = record r { statuses = with_status r.statuses t s pending }

-- the status has the code, and its thread one signal more
abbrev pub after_signal : RequestRows → ObjNo → ℕ → ℤ → RequestRows
after_signal r t s code = record r { statuses = with_status r.statuses t s code; signals = slice_set r.signals t.0 (one_more (signal_count r t)) }

-- the thread has one signal less, and none where it had none
abbrev pub after_take : RequestRows → ObjNo → RequestRows
after_take r t = record r { signals = slice_set r.signals t.0 (signal_count r t - 1) }

-- the status of the thread's synchronous message has the code
abbrev pub after_reply : RequestRows → ObjNo → ℤ → RequestRows
after_reply r t code = record r { replies = slice_set r.replies t.0 code }
