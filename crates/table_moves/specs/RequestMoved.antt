-- When a move in the table of requests can be made.
use Rattle.std.specs.Prelude.{ℕ, ◌<◌, length, IsTrue}
use Rattle.sym_base.specs.declared.number.ObjNo.{ObjNo}
use Rattle.state_rows.specs.declared.requests.RequestRows.{RequestRows}
use Rattle.state_rows.specs.Requests.{is_pending}
use Rattle.machine.specs.declared.request_move.RequestMove.{RequestMove}
use Rattle.machine.specs.declared.request_move.RequestMove.TheVariants.{Begin, Complete, SetPending, Signal, DropAll, TakeSignal, Reply}

-- a device, a thread and a status of the table
abbrev pub IsKnown : RequestRows → ℕ → ObjNo → ℕ → Type 0
IsKnown r d t s = (d < length r.devices) × (t.0 < length r.signals) × (s < 16)

-- the device, the thread and the status are the table's, and what is completed is pending
abbrev pub CanRequest : RequestMove → RequestRows → Type 0
CanRequest (Begin d t s) r = IsKnown r d t s
CanRequest (Complete d t s code) r = IsKnown r d t s × IsTrue (is_pending r t s)
CanRequest (SetPending t s) r = (t.0 < length r.signals) × (s < 16)
CanRequest (Signal t s code) r = (t.0 < length r.signals) × (s < 16) × IsTrue (is_pending r t s)
CanRequest (DropAll t) r = t.0 < length r.signals
CanRequest (TakeSignal t) r = t.0 < length r.signals
CanRequest (Reply t code) r = t.0 < length r.signals
