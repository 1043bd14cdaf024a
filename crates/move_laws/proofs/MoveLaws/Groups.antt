-- The conditions of a whole group of rows, where rows of other groups change: a further kind of rows in a group is passed on here.
use Rattle.std.proofs.Common.{◌≡◌, ℕ, ◌≤◌, List, length, get_or, Option, None, Some}
use Rattle.sym_base.specs.declared.number.ObjNo.{ObjNo}
use Rattle.script_types.specs.declared.script.Script.{Script}
use Rattle.state_rows.specs.declared.duty.Owed.{Owed}
use Rattle.state_rows.specs.declared.locks.LockRows.{LockRows}
use Rattle.state_rows.specs.declared.object.ObjectRow.{ObjectRow}
use Rattle.state_rows.specs.declared.thread.ThreadRow.{ThreadRow}
use Rattle.machine.specs.declared.services.Services.{Services}
use Rattle.machine.specs.declared.serving.Serving.{Serving}
use Rattle.machine.specs.declared.state.State.{State}
use Rattle.machine.specs.Rows.{with_row}
use Rattle.machine.specs.WellFormed.{AreAwaited, AreRows, AreServiceRows, AreServingRows, AreSynchronizationRows, AreSynchronized, is_spent}
use Rattle.move_laws.proofs.RowLaws.Awaited.{awaited-kept}
use Rattle.move_laws.proofs.RowLaws.Locks.{HasThose, LeavesLocks, leaves-none, leaves-then, leaves-with_row, locks-left}
use Rattle.move_laws.proofs.RowLaws.Memories.{memories-with_row}
use Rattle.move_laws.proofs.RowLaws.ServersKept.{KeepsOver, servers-more}
use Rattle.move_laws.proofs.RowLaws.Synchronized.{IsHolding, synchronized-with_row}

-- what other rows of threads, and other duties, have to leave of what threads synchronize by; the rest of the group doesn't read them
pub record LeavesSynchronization (script : Script) (S : State) (threads : List (Option ThreadRow)) (owed : List (List Owed)) : Type 0 where
  pub nano : AreSynchronized script threads S.synchronization.nano
  pub locks : LeavesLocks S.references.threads threads S.references.owed owed S.synchronization.locks
  pub awaited : AreAwaited threads S.synchronization.requests S.synchronization.logons

-- then the conditions of the group hold, also with more objects
pub synchronization-left : (script : Script) (S : State) (count : List (Option ObjectRow)) (threads : List (Option ThreadRow))
    (owed : List (List Owed))
    → HasThose S.references.objects count → LeavesSynchronization script S threads owed → AreRows script S
    → AreSynchronizationRows script (length S.references.threads) count threads owed S.synchronization
synchronization-left script S count threads owed more leaves rows = record {
  nano = leaves.nano;
  deferred = rows.synchronization.deferred;
  requests = rows.synchronization.requests;
  locks =
      locks-left S.references.objects count S.references.threads threads S.synchronization.mutexes
      S.references.owed owed S.synchronization.locks more leaves.locks rows.synchronization.locks;
  logons = rows.synchronization.logons;
  awaited = leaves.awaited;
}

-- the same rows and duties leave it
pub synchronization-same : (script : Script) (S : State) → AreRows script S → LeavesSynchronization script S S.references.threads S.references.owed
synchronization-same script S rows = record {
  nano = rows.synchronization.nano;
  locks = leaves-none S.references.threads S.references.owed S.synchronization.locks;
  awaited = rows.synchronization.awaited;
}

-- and so do other duties after it
pub synchronization-then : (script : Script) (S : State) (threads : List (Option ThreadRow))
    (owed duties : List (List Owed))
    → LeavesSynchronization script S threads owed → LeavesLocks threads threads owed duties S.synchronization.locks
    → LeavesSynchronization script S threads duties
synchronization-then script S threads owed duties h leaves = record {
  nano = h.nano;
  locks = leaves-then S.references.threads threads threads S.references.owed owed duties S.synchronization.locks h.locks leaves;
  awaited = h.awaited;
}

-- and a change of one row that leaves its stage and what it waits for
pub synchronization-row : (script : Script) (S : State) (threads : List (Option ThreadRow)) (owed : List (List Owed))
    (u : ObjNo) (f : ThreadRow → ThreadRow)
    → ((row : ThreadRow) → IsHolding row → IsHolding (f row)) → ((row : ThreadRow) → (f row).stage ≡ row.stage)
    → ((row : ThreadRow) → (f row).waiting ≡ row.waiting) → LeavesSynchronization script S threads owed
    → LeavesSynchronization script S (with_row threads u f) owed
synchronization-row script S threads owed u f holding stage waits h = record {
  nano = synchronized-with_row script threads u f S.synchronization.nano holding h.nano;
  locks =
      leaves-then S.references.threads threads
      (with_row threads u f) S.references.owed owed owed S.synchronization.locks h.locks
      (leaves-with_row threads u f owed S.synchronization.locks waits);
  awaited = awaited-kept threads u f S.synchronization.requests S.synchronization.logons stage waits h.awaited;
}

-- such a change of a row of the state
pub synchronization-kept : (script : Script) (S : State) (u : ObjNo) (f : ThreadRow → ThreadRow)
    → ((row : ThreadRow) → IsHolding row → IsHolding (f row)) → ((row : ThreadRow) → (f row).stage ≡ row.stage)
    → ((row : ThreadRow) → (f row).waiting ≡ row.waiting) → AreRows script S
    → LeavesSynchronization script S (with_row S.references.threads u f) S.references.owed
synchronization-kept script S u f holding stage waits rows =
    synchronization-row script S S.references.threads S.references.owed u f holding stage waits
    (synchronization-same script S rows)

-- what the kernel keeps for processes, where a thread's row changes but for its process
pub services-row : (threads : List (Option ThreadRow)) (u : ObjNo) (f : ThreadRow → ThreadRow) (r : Services)
    → ((row : ThreadRow) → get_or threads u.0 None ≡ Some row → (f row).process ≡ row.process)
    → AreServiceRows threads r → AreServiceRows (with_row threads u f) r
services-row threads u f r process h = record { memories = memories-with_row threads u f r.memories process h.memories }

-- servers and messages with more objects
pub serving-more : (objects more : List (Option ObjectRow)) (threads : List (Option ThreadRow)) (locks : LockRows)
    (untold : ObjNo → ℕ → Type 0) (r : Serving)
    → HasThose objects more → KeepsOver objects more → AreServingRows objects threads locks untold r
    → AreServingRows more threads locks untold r
serving-more objects more threads locks untold r those over h = record {
  servers = servers-more (λ row. is_spent row.stage) objects more threads locks r.owned r.servers those over h.servers;
  messages = h.messages;
}
