-- What calls answer, where that is more than a reading of the rows.
use Rattle.std.specs.Prelude.{ℕ, if◌then◌else◌, Option, Some, None, is_some}
use Rattle.sym_base.specs.declared.number.ObjNo.{ObjNo}
use Rattle.state_rows.specs.declared.requests.Request.{Request}
use Rattle.state_rows.specs.declared.requests.RequestRows.{RequestRows}
use Rattle.state_rows.specs.Requests.{request_at}
use Rattle.requests.specs.declared.table.Began.{Began}
use Rattle.requests.specs.declared.table.Began.TheVariants.{Begun, InUse}

-- what a device answers to a request: it takes one only where it has none
abbrev pub begin_answer : RequestRows → ℕ → Began
begin_answer r d = if is_some (request_at r d) then InUse else Begun

-- the thread and the status of a request
abbrev pub parts_of : Option Request → Option (ObjNo × ℕ)
parts_of None = None
parts_of (Some request) = Some (request.thread, request.status)
