-- What is left of a number that no object has: nothing but its history.
use Rattle.std.specs.Prelude.{◌≡◌, [], None}
use Rattle.sym_base.specs.declared.number.ObjNo.{ObjNo}
use Rattle.state_rows.specs.Locks.{count_at, owner_at, waiters_at}
use Rattle.state_rows.specs.ServerRows.{linked_at, session_at}
use Rattle.machine.specs.declared.state.State.{State}
use Rattle.machine.specs.References.{count_of}
use Rattle.machine.specs.Rows.{object_of, thread_of}
use Rattle.machine.specs.WellFormed.{sweeps_of}

-- a number is fresh: no object and no thread has it, nothing refers to it, no sweep of it is owed, nobody owns it or waits for it, it counts
-- nothing, and it is no session and has none, also where it was another object's
pub record IsFresh (S : State) (o : ObjNo) : Type 0 where
  pub object : object_of S o ≡ None
  pub thread : thread_of S o ≡ None
  pub references : count_of S o ≡ 0
  pub sweeps : sweeps_of S o ≡ 0
  pub owner : owner_at S.synchronization.locks o ≡ None
  pub waiters : waiters_at S.synchronization.locks o ≡ []
  pub count : count_at S.synchronization.locks o ≡ 0
  pub session : session_at S.serving.servers o ≡ None
  pub linked : linked_at S.serving.servers o ≡ []
