-- Safe weights: each action of a doomed thread makes it lighter, and others add to it by two events alone; so it acts no more often than
-- it weighs. The weights are those of the states that a history leaves.
use Rattle.std.specs.Prelude.{◌≡◌, ℕ, ◌+◌, ◌-◌, ◌*◌, ◌<◌, ◌≤◌, ◌==◌, Bool, true, false, if◌then◌else◌, length, List, [], ◌∷◌, ◌++◌, Option, Some, None}
use Rattle.sym_base.specs.declared.number.ObjNo.{ObjNo}
use Rattle.script_types.specs.declared.script.Script.{Script}
use Rattle.entry_log.specs.declared.effect.Effect.{Effect}
use Rattle.entry_log.specs.declared.effect.Effect.TheVariants.{Plus}
use Rattle.entry_log.specs.declared.effect.Holder.{Holder}
use Rattle.entry_log.specs.declared.effect.Holder.TheVariants.{InProcess}
use Rattle.entry_log.specs.declared.entry.Actor.{Actor}
use Rattle.entry_log.specs.declared.entry.Actor.TheVariants.{Thread}
use Rattle.entry_log.specs.declared.entry.Entry.{Entry}
use Rattle.state_rows.specs.declared.thread.Stage.{Stage}
use Rattle.state_rows.specs.declared.thread.Stage.TheVariants.{Doomed}
use Rattle.state_rows.specs.declared.thread.ThreadRow.{ThreadRow}
use Rattle.machine.specs.History.{after_in, next_by}
use Rattle.machine.specs.LogonMoves.{logons_on}
use Rattle.machine.specs.References.{same}
use Rattle.machine.specs.Rows.{thread_of}
use Rattle.machine.specs.declared.state.State.{State}
use Rattle.machine_safe.specs.CountAfter.{is_by}
use Rattle.machine_safe.specs.SafeDeaths.{StandsAt, cleanings}
use Rattle.machine_safe.specs.Weight.{GetsNoMore, weight_in}

-- whether a thread is doomed and not cleaned yet
abbrev pub is_doomed : Stage → Bool
is_doomed Doomed = true
is_doomed _ = false

abbrev pub is_doomed_row : Option ThreadRow → Bool
is_doomed_row None = false
is_doomed_row (Some row) = is_doomed row.stage

abbrev pub is_dying : State → ObjNo → Bool
is_dying S t = is_doomed_row (thread_of S t)

-- how often effects add a handle to the table of a process
abbrev pub in_table : ObjNo → Holder → ℕ
in_table p (InProcess q i) = same q p
in_table p _ = 0

abbrev pub handles_added : ObjNo → List Effect → ℕ
handles_added p [] = 0
handles_added p (Plus h o ∷ rest) = in_table p h + handles_added p rest
handles_added p (_ ∷ rest) = handles_added p rest

-- how many logons on a thread are made between two states
abbrev pub logons_made : State → State → ObjNo → ℕ
logons_made S T t = length (logons_on T.synchronization.logons t) - length (logons_on S.synchronization.logons t)

-- whether an actor is a thread of this process
abbrev pub is_row_of : ObjNo → Option ThreadRow → Bool
is_row_of p None = false
is_row_of p (Some row) = row.process.0 == p.0

abbrev pub is_of : State → ObjNo → Actor → Bool
is_of S p (Thread u) = is_row_of p (thread_of S u)
is_of S p actor = false

-- how many handles an actor adds to the table of this process, if it is a thread of it
abbrev pub handles_by : State → ObjNo → Actor → List Effect → ℕ
handles_by S p actor effects = if is_of S p actor then handles_added p effects else 0

-- what another adds to a thread by an entry: 4 for each handle that a thread of its process adds to the table of that, and 1 for each logon on it
abbrev pub added_to : State → State → Entry → ObjNo → Option ThreadRow → ℕ
added_to S T e t None = 0
added_to S T e t (Some row) = 4 * handles_by S row.process e.actor e.effects + logons_made S T t

abbrev pub added_by : Script → State → Entry → ObjNo → ℕ
added_by script S e t = if is_by t e.actor then 0 else added_to S (next_by script S e) e t (thread_of S t)

-- and what they add by several entries
abbrev pub added_in : Script → State → List Entry → ObjNo → ℕ
added_in script S [] t = 0
added_in script S (e ∷ es) t = added_by script S e t + added_in script (next_by script S e) es t

-- how many entries are the thread's own
abbrev pub acts_of : List Entry → ObjNo → ℕ
acts_of [] t = 0
acts_of (e ∷ es) t = (if is_by t e.actor then 1 else 0) + acts_of es t

-- the weight of a thread until it is cleaned, and then 0
abbrev pub weight_left : State → ObjNo → ℕ
weight_left S t = if is_dying S t then weight_in S t else 0

pub record IsSafeWeights (shared : Bool) (script : Script) (history : List Entry) : Type 0 where
  -- each action of a doomed thread lowers its weight
  pub lowers : (before : List Entry) (e : Entry) (later : List Entry) (t : ObjNo) → StandsAt history before e later
      → is_dying (after_in shared script before) t ≡ true → is_by t e.actor ≡ true →
      weight_in (after_in shared script (before ++ e ∷ [])) t < weight_in (after_in shared script before) t
  -- what others do raises it only by what they add
  pub raises : (before : List Entry) (e : Entry) (later : List Entry) (t : ObjNo) → StandsAt history before e later
      → is_dying (after_in shared script before) t ≡ true →
      weight_in (after_in shared script (before ++ e ∷ [])) t
      ≤ weight_in (after_in shared script before) t + added_by script (after_in shared script before) e t
  -- no message, no session and no mutex is ever added to it
  pub gets : (before : List Entry) (e : Entry) (later : List Entry) (t : ObjNo) → StandsAt history before e later
      → is_dying (after_in shared script before) t ≡ true →
      GetsNoMore (after_in shared script before) (after_in shared script (before ++ e ∷ [])) t
  -- from its doom on it acts no more often than it weighed then and others added
  pub bound : (before middle later : List Entry) (t : ObjNo) → history ≡ before ++ middle ++ later → is_dying (after_in shared script before) t ≡ true →
      acts_of middle t + weight_left (after_in shared script (before ++ middle)) t
      ≤ weight_in (after_in shared script before) t + added_in script (after_in shared script before) middle t
  -- so if it acts that often it is cleaned
  pub cleaned : (before middle later : List Entry) (t : ObjNo) → history ≡ before ++ middle ++ later → is_dying (after_in shared script before) t ≡ true →
      weight_in (after_in shared script before) t + added_in script (after_in shared script before) middle t ≤ acts_of middle t → cleanings middle t ≡ 1
