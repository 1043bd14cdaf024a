-- Safe deaths: a thread dies once, in stages, and a dead one holds, owes and receives nothing. All but the last part is
-- read off the history alone.
use Rattle.std.specs.Prelude.{◌≡◌, ℕ, ◌+◌, ◌<◌, ◌≤◌, ◌==◌, ◌&&◌, Bool, true, false, if◌then◌else◌, List, [], ◌∷◌, ◌++◌, Some, None}
use Rattle.sym_base.specs.declared.number.ObjNo.{ObjNo}
use Rattle.script_types.specs.declared.script.Script.{Script}
use Rattle.entry_log.specs.declared.effect.Effect.{Effect}
use Rattle.entry_log.specs.declared.effect.Effect.TheVariants.{Doom, Bury, Take, Give, Signal}
use Rattle.entry_log.specs.declared.effect.Holder.{Holder}
use Rattle.entry_log.specs.declared.effect.Holder.TheVariants.{InProcess, InThread, Temp, Own}
use Rattle.entry_log.specs.declared.effect.LockNo.{LockNo}
use Rattle.entry_log.specs.declared.effect.LockNo.TheVariants.{Object, Fast}
use Rattle.entry_log.specs.declared.entry.Entry.{Entry}
use Rattle.state_rows.specs.declared.thread.ThreadRow.{ThreadRow}
use Rattle.machine.specs.Boot.{boot}
use Rattle.machine.specs.History.{after_in}
use Rattle.machine.specs.Holding.{held_after_all, held_at_boot}
use Rattle.machine.specs.Holdings.{holdings}
use Rattle.machine.specs.References.{same}
use Rattle.machine.specs.LogonMoves.{logons_on}
use Rattle.machine.specs.Rows.{table_of, thread_of, owed_of}
use Rattle.machine.specs.ServerMoves.{owned_by}
use Rattle.machine.specs.declared.state.State.{State}
use Rattle.state_rows.specs.HandleSlots.{slot_at}
use Rattle.state_rows.specs.Nano.{held_by}
use Rattle.std.specs.List.{slice_index_or}
use Rattle.machine.specs.EntryWords.{is_clean}
use Rattle.machine_safe.specs.CountAfter.{effects_of, is_by, pluses_by}

-- how often effects say that a thread is doomed, and that it is buried
abbrev pub dooms : List Effect → ObjNo → ℕ
dooms [] t = 0
dooms (Doom u ∷ rest) t = same u t + dooms rest t
dooms (_ ∷ rest) t = dooms rest t

abbrev pub burials : List Effect → ObjNo → ℕ
burials [] t = 0
burials (Bury u ∷ rest) t = same u t + burials rest t
burials (_ ∷ rest) t = burials rest t

-- how often a thread is cleaned in entries: that is a step of its own
abbrev pub cleanings : List Entry → ObjNo → ℕ
cleanings [] t = 0
cleanings (e ∷ es) t = (if is_by t e.actor && is_clean e.step then 1 else 0) + cleanings es t

-- how often a thread takes a lock, gives it up, and is signalled
abbrev pub is_lock : LockNo → LockNo → Bool
is_lock (Object o) (Object x) = o.0 == x.0
is_lock (Fast f) (Fast g) = f == g
is_lock _ _ = false

abbrev pub takes : List Effect → ObjNo → LockNo → ℕ
takes [] t lock = 0
takes (Take u l ∷ rest) t lock = (if is_lock l lock then same u t else 0) + takes rest t lock
takes (_ ∷ rest) t lock = takes rest t lock

abbrev pub gives : List Effect → ObjNo → LockNo → ℕ
gives [] t lock = 0
gives (Give u l ∷ rest) t lock = (if is_lock l lock then same u t else 0) + gives rest t lock
gives (_ ∷ rest) t lock = gives rest t lock

abbrev pub signals : List Effect → ObjNo → ℕ
signals [] t = 0
signals (Signal u s code ∷ rest) t = same u t + signals rest t
signals (_ ∷ rest) t = signals rest t

-- an entry with what is before it and behind it
abbrev pub StandsAt : List Entry → List Entry → Entry → List Entry → Type 0
StandsAt history before e later = history ≡ before ++ e ∷ later

-- a thread is doomed, cleaned and buried once at most each, and each only after the one before
pub record DiesInOrder (history : List Entry) (t : ObjNo) : Type 0 where
  pub doomed : dooms (effects_of history) t ≤ 1
  pub cleaned : cleanings history t ≤ 1
  pub buried : burials (effects_of history) t ≤ 1
  pub doom_first : (before : List Entry) (e : Entry) (later : List Entry) → StandsAt history before e later
      → 0 < cleanings (e ∷ []) t → 0 < dooms (effects_of before) t
  pub clean_first : (before : List Entry) (e : Entry) (later : List Entry) → StandsAt history before e later → 0 < burials e.effects t → 0 < cleanings before t

-- after its doom it takes no lock and gets no signal; and at its doom it holds no fast mutex
pub record DoomEnds (history : List Entry) (t : ObjNo) : Type 0 where
  pub takes_none : (before : List Entry) (e : Entry) (later : List Entry) (lock : LockNo)
      → StandsAt history before e later → 0 < dooms e.effects t → takes (effects_of later) t lock ≡ 0
  pub signals_none : (before : List Entry) (e : Entry) (later : List Entry) → StandsAt history before e later
      → 0 < dooms e.effects t → signals (effects_of later) t ≡ 0
  pub fast : (before : List Entry) (e : Entry) (later : List Entry) (f : ℕ) → StandsAt history before e later → 0 < dooms e.effects t →
      takes (effects_of (before ++ e ∷ [])) t (Fast f) ≡ gives (effects_of (before ++ e ∷ [])) t (Fast f)

-- whether a holder is a thread's own: its use, its ownerships, and the handles of its table
abbrev pub is_own : ObjNo → Holder → Bool
is_own t (Temp u) = u.0 == t.0
is_own t (Own u) = u.0 == t.0
is_own t (InThread u i) = u.0 == t.0
is_own t _ = false

-- whether all other threads of a process are cleaned in entries
abbrev pub OthersAreCleaned : Script → List Entry → ObjNo → ObjNo → Type 0
OthersAreCleaned script before p t =
    (u : ObjNo) (row : ThreadRow) → thread_of (boot script) u ≡ Some row → row.process.0 ≡ p.0 → (u.0 ≡ t.0 → ⊥)
    → 0 < cleanings before u

-- As it is cleaned, it has given all locks back, and no reference of its own is left, and none of its process's table where it is the last
-- thread of that.
pub record CleanLeaves (script : Script) (history : List Entry) (t : ObjNo) : Type 0 where
  pub locks : (before : List Entry) (e : Entry) (later : List Entry) (lock : LockNo) → StandsAt history before e later
      → 0 < cleanings (e ∷ []) t → takes (effects_of before) t lock ≡ gives (effects_of before) t lock
  pub own : (before : List Entry) (e : Entry) (later : List Entry) (h : Holder) (o : ObjNo)
      → StandsAt history before e later → 0 < cleanings (e ∷ []) t → is_own t h ≡ true
      → held_after_all (held_at_boot script) (effects_of before) h o ≡ 0
  pub handles : (before : List Entry) (e : Entry) (later : List Entry) (row : ThreadRow) (i : ℕ) (o : ObjNo)
      → StandsAt history before e later → 0 < cleanings (e ∷ []) t → thread_of (boot script) t ≡ Some row →
      OthersAreCleaned script before row.process t → held_after_all (held_at_boot script) (effects_of before) (InProcess row.process i) o ≡ 0

-- Nothing is a thread's: no lock, no place of its table, no logon on it, and no server, closing or not. This doesn't ask for its row, which may
-- be swept.
pub record HasNone (S : State) (t : ObjNo) : Type 0 where
  pub mutexes : slice_index_or S.synchronization.mutexes t.0 [] ≡ []
  pub fast : held_by S.synchronization.nano t ≡ None
  pub handles : (i : ℕ) → (slot_at (table_of S t) i).object ≡ None
  pub logons : logons_on S.synchronization.logons t ≡ []
  pub servers : owned_by S.serving.owned t ≡ []

-- From then on it doesn't act, gets no reference of its own, nor does its process's table where all others of that are cleaned too, and it
-- has nothing left.
pub record StaysDead (shared : Bool) (script : Script) (history : List Entry) (t : ObjNo) : Type 0 where
  pub acts : (before : List Entry) (e : Entry) (later : List Entry) → StandsAt history before e later → 0 < cleanings before t → is_by t e.actor ≡ false
  pub gains : (before : List Entry) (e : Entry) (later : List Entry) (h : Holder) (o : ObjNo)
      → StandsAt history before e later → 0 < cleanings before t → is_own t h ≡ true → pluses_by e.effects h o ≡ 0
  pub shares : (before : List Entry) (e : Entry) (later : List Entry) (row : ThreadRow) (i : ℕ) (o : ObjNo)
      → StandsAt history before e later → 0 < cleanings before t → thread_of (boot script) t ≡ Some row →
      OthersAreCleaned script before row.process t → pluses_by e.effects (InProcess row.process i) o ≡ 0
  pub owes : (before later : List Entry) → history ≡ before ++ later → 0 < cleanings before t → owed_of (after_in shared script before) t ≡ []
  pub has : (before later : List Entry) (row : ThreadRow) → history ≡ before ++ later → 0 < cleanings before t
      → thread_of (after_in shared script before) t ≡ Some row → holdings (after_in shared script before) t row ≡ []
  pub none : (before later : List Entry) → history ≡ before ++ later → 0 < cleanings before t → HasNone (after_in shared script before) t

pub record IsSafeDeaths (shared : Bool) (script : Script) (history : List Entry) : Type 0 where
  pub order : (t : ObjNo) → DiesInOrder history t
  pub doom : (t : ObjNo) → DoomEnds history t
  pub clean : (t : ObjNo) → CleanLeaves script history t
  pub dead : (t : ObjNo) → StaysDead shared script history t
