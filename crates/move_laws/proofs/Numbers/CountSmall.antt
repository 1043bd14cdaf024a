-- Counts are small, since tables, threads and duties are few.
use Rattle.std.proofs.Common.{◌≡◌, inl, inr, ℕ, ◌*◌, ◌<◌, ◌≤◌, length, List, [], ◌∷◌, Option, Some, None, slice_index_or, ap, arith}
use Rattle.std.proofs.lemmas.Bool.{cases_lt}
use Rattle.sym_base.specs.declared.number.ObjNo.{ObjNo}
use Rattle.script_types.specs.declared.script.Script.{Script}
use Rattle.entry_log.specs.declared.effect.Holder.{Holder}
use Rattle.entry_log.specs.declared.effect.Holder.TheVariants as holder
use Rattle.state_rows.specs.declared.duty.Owed.{Owed}
use Rattle.state_rows.specs.declared.duty.Owed.TheVariants.{Close, Sweep}
use Rattle.state_rows.specs.declared.messages.Message.{Message}
use Rattle.state_rows.specs.declared.servers.SessionRow.{SessionRow}
use Rattle.state_rows.specs.declared.thread.ThreadRow.{ThreadRow}
use Rattle.machine.specs.declared.state.State.{State}
use Rattle.machine.specs.Rows.{thread_of}
use Rattle.state_rows.specs.HandleSlots.{fresh_slot}
use Rattle.machine.specs.References.{total, option_names, slot_names, thread_names, owed_names, mutex_names, session_names, message_names, kernel_names, count_of, kernel_holds, stage_holds}
use Rattle.machine.specs.WellFormed.{AreRows, IsUntold, times_held, weight}
use Rattle.move_laws.proofs.Lists.Totals.{total_at_most}
use Rattle.move_laws.proofs.References.Same.{same_le}
use Rattle.move_laws.proofs.RowLaws.FewMessages.{messages_few}
use Rattle.state_rows.specs.declared.thread.Stage.{Stage}
use Rattle.state_rows.specs.declared.thread.Stage.TheVariants.{Buried}

pub option_le : (o : ObjNo) (x : Option ObjNo) → option_names o x ≤ 1
option_le o None = omega arith
option_le o (Some x) = same_le x o

thread_le : (o : ObjNo) (row : Option ThreadRow) → thread_names o row ≤ 2
thread_le o None = omega arith
thread_le o (Some row) = let a = option_le o row.link in let b = option_le o row.uses in omega arith

close_weighs : (holder : Holder) (o : ObjNo) → 1 ≤ weight (Close holder o)
close_weighs (holder.Link x) o = omega arith
close_weighs _ o = omega arith

owed_le : (o : ObjNo) (what : Owed) → owed_names o what ≤ weight what
owed_le o (Close holder x) = let a = same_le x o in let b = close_weighs holder x in omega arith
owed_le o (Sweep x) = omega arith

duties_le : (o : ObjNo) (duties : List Owed) → total (owed_names o) duties ≤ total weight duties
duties_le o [] = omega arith
duties_le o (what ∷ rest) = let a = owed_le o what in let b = duties_le o rest in omega arith

-- a thread holds a mutex once at most
held_le : (script : Script) (S : State) → AreRows script S → (o : ObjNo) (k : ℕ) → total (mutex_names o) (slice_index_or S.synchronization.mutexes k []) ≤ 1
held_le script S rows o k =
    elim (cases_lt 0 (times_held S.synchronization.mutexes (record { 0 = k }) o)) as
    (λ _. total (mutex_names o) (slice_index_or S.synchronization.mutexes k []) ≤ 1) [
      | inl some ↦
          let own = rows.synchronization.locks.held (record { 0 = k }) o some in
          let once = rows.synchronization.locks.owned o own.owner own.is in
          let same : times_held S.synchronization.mutexes own.owner.thread o
          ≡ total (mutex_names o) (slice_index_or S.synchronization.mutexes k []) =
          ap (λ (n : ℕ). total (mutex_names o) (slice_index_or S.synchronization.mutexes n [])) own.thread in
          omega arith
      | inr none ↦ omega arith
    ]

-- the kernel holds a thread once at most
stage_le : (stage : Stage) → stage_holds stage ≤ 1
stage_le Buried = omega arith
stage_le _ = omega arith

pub holds_le : (x : Option ThreadRow) → kernel_holds x ≤ 1
holds_le None = omega arith
holds_le (Some row) = stage_le row.stage

-- a session refers to its server, and a message to its session and its client
session_le : (o : ObjNo) (row : Option SessionRow) → session_names o row ≤ 1
session_le o None = omega arith
session_le o (Some row) = option_le o row.server

messages_le : (o : ObjNo) (messages : List Message) → total (message_names o) messages ≤ 2 * length messages
messages_le o [] = omega arith
messages_le o (message ∷ rest) = let a = same_le message.row.session o in let b = same_le message.row.client o in let c = messages_le o rest in omega arith

-- at most 256 references from a table, 2 from a thread and 1 each for what it holds and owns, 1 from the kernel, 12 from what a thread owes, 1
-- from a session and 2 from a message
pub count_small : (script : Script) (S : State) → AreRows script S → (o : ObjNo) → count_of S o < 65536
count_small script S rows o =
    let handles : total (total (slot_names o)) S.references.handles ≤ 256 * length S.references.handles =
    total_at_most (total (slot_names o)) 256 S.references.handles [] (λ k inside.
    let few : total (slot_names o) (slice_index_or S.references.handles k [])
    ≤ 1 * length (slice_index_or S.references.handles k []) =
    total_at_most (slot_names o) 1 (slice_index_or S.references.handles k []) fresh_slot (λ i _. option_le o _) in
    let size : length (slice_index_or S.references.handles k []) ≡ 256 = (rows.references.tables k inside).size in
    omega arith) in
    let threads : total (thread_names o) S.references.threads ≤ 2 * length S.references.threads =
    total_at_most (thread_names o) 2 S.references.threads None (λ k _. thread_le o _) in
    let owed : total (total (owed_names o)) S.references.owed ≤ 12 * length S.references.owed =
    total_at_most (total (owed_names o)) 12 S.references.owed [] (λ k _.
    let few = duties_le o (slice_index_or S.references.owed k []) in
    let weighs : total weight (slice_index_or S.references.owed k []) ≤ 12 = rows.references.duties.few k in
    omega arith) in
    let kernel : kernel_names S o ≤ 1 = holds_le (thread_of S o) in
    let mutexes : total (total (mutex_names o)) S.synchronization.mutexes ≤ 1 * length S.synchronization.mutexes =
    total_at_most (total (mutex_names o)) 1 S.synchronization.mutexes [] (λ k _. held_le script S rows o k) in
    let owned : total (total (mutex_names o)) S.serving.owned ≤ 1 * length S.serving.owned =
    total_at_most (total (mutex_names o)) 1 S.serving.owned []
    (λ k _. rows.serving.servers.once (record { 0 = k }) o) in
    let sessions : total (session_names o) S.serving.servers.sessions ≤ 1 * length S.serving.servers.sessions =
    total_at_most (session_names o) 1 S.serving.servers.sessions None (λ k _. session_le o _) in
    let messages = messages_le o S.serving.messages.outstanding in
    let few = messages_few (IsUntold S.synchronization.requests S.synchronization.logons)
    (λ u s untold. untold.0.status) S.references.threads S.serving.servers S.serving.messages rows.serving.messages
    rows.serving.servers.sessions_sized in
    let sessions_sized = rows.serving.servers.sessions_sized in
    let owned_sized = rows.serving.servers.owned_sized in
    let held = rows.synchronization.locks.mutexes_sized in
    let tables = rows.references.sized.tables in
    let duties = rows.references.sized.duties in
    let threads_few = rows.references.sized.threads_few in
    omega arith
