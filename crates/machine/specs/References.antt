-- References are read off the rows, and the count of an object is the number of references to it.
use Rattle.std.specs.Prelude.{◌≡◌, ℕ, ◌+◌, ◌==◌, Bool, if◌then◌else◌, List, [], ◌∷◌, Option, Some, None}
use Rattle.sym_base.specs.declared.number.ObjNo.{ObjNo}
use Rattle.entry_log.specs.declared.effect.Effect.{Effect}
use Rattle.entry_log.specs.declared.effect.Effect.TheVariants.{Plus, Minus}
use Rattle.state_rows.specs.declared.duty.Owed.{Owed}
use Rattle.state_rows.specs.declared.duty.Owed.TheVariants.{Close, Sweep}
use Rattle.state_rows.specs.declared.handle_slot.HandleSlot.{HandleSlot}
use Rattle.state_rows.specs.declared.thread.Stage.{Stage}
use Rattle.state_rows.specs.declared.thread.Stage.TheVariants.{Buried}
use Rattle.state_rows.specs.declared.thread.ThreadRow.{ThreadRow}
use Rattle.state_rows.specs.declared.servers.SessionRow.{SessionRow}
use Rattle.state_rows.specs.declared.messages.Message.{Message}
use Rattle.machine.specs.declared.state.State.{State}
use Rattle.machine.specs.Rows.{thread_of}

-- the sum of a number for each row
abbrev pub total : {A : Type 0} → (A → ℕ) → List A → ℕ
total f [] = 0
total f (x ∷ xs) = f x + total f xs

-- 1 where the two are one object, else 0
abbrev pub same : ObjNo → ObjNo → ℕ
same x o = if x.0 == o.0 then 1 else 0

-- 1 where there is an object and it is this one
abbrev pub option_names : ObjNo → Option ObjNo → ℕ
option_names o None = 0
option_names o (Some x) = same x o

-- a slot of a handle table refers to the object there
abbrev pub slot_names : ObjNo → HandleSlot → ℕ
slot_names o slot = option_names o slot.object

-- a thread refers to its process, by its link, and to what it uses
abbrev pub thread_names : ObjNo → Option ThreadRow → ℕ
thread_names o None = 0
thread_names o (Some row) = option_names o row.link + option_names o row.uses

-- a thread owns the mutexes that it holds, and the servers that it made
abbrev pub mutex_names : ObjNo → ObjNo → ℕ
mutex_names o x = same x o

-- a session refers to its server, by its link
abbrev pub session_names : ObjNo → Option SessionRow → ℕ
session_names o None = 0
session_names o (Some row) = option_names o row.server

-- a message refers to its session and its client
abbrev pub message_names : ObjNo → Message → ℕ
message_names o message = same message.row.session o + same message.row.client o

-- a close that is owed stands for a reference that isn't given up yet
abbrev pub owed_names : ObjNo → Owed → ℕ
owed_names o (Close holder x) = same x o
owed_names o (Sweep x) = 0

-- the kernel holds each thread until its burial
abbrev pub stage_holds : Stage → ℕ
stage_holds Buried = 0
stage_holds _ = 1

abbrev pub kernel_holds : Option ThreadRow → ℕ
kernel_holds None = 0
kernel_holds (Some row) = stage_holds row.stage

abbrev pub kernel_names : State → ObjNo → ℕ
kernel_names S o = kernel_holds (thread_of S o)

-- the count of an object: the number of handles, links, temporary references, ownerships, messages' references, owed closes and of
-- the kernel's own references that name it
abbrev pub server_names : State → ObjNo → ℕ
server_names S o =
    total (total (mutex_names o)) S.serving.owned + total (session_names o) S.serving.servers.sessions + total
    (message_names o) S.serving.messages.outstanding

abbrev pub count_of : State → ObjNo → ℕ
count_of S o =
    total (total (slot_names o)) S.references.handles + total
    (thread_names o) S.references.threads + kernel_names S o + total (total (owed_names o)) S.references.owed + total
    (total (mutex_names o)) S.synchronization.mutexes + server_names S o

-- how often effects add a reference to an object
abbrev pub pluses : List Effect → ObjNo → ℕ
pluses [] o = 0
pluses (Plus holder x ∷ rest) o = same x o + pluses rest o
pluses (_ ∷ rest) o = pluses rest o

-- how often effects take one away
abbrev pub minuses : List Effect → ObjNo → ℕ
minuses [] o = 0
minuses (Minus holder x ∷ rest) o = same x o + minuses rest o
minuses (_ ∷ rest) o = minuses rest o

-- references move as the effects say
pub record RefsMove (old new : State) (effects : List Effect) : Type 0 where
  pub each : (o : ObjNo) → count_of new o + minuses effects o ≡ count_of old o + pluses effects o
