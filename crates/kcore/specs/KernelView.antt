-- What a contract sees of a kernel.
use Rattle.std.specs.Prelude.{◌≡◌, ℕ, ◌+◌, ◌≤◌, if◌then◌else◌, Bool, true, false, List, [], length}
use Rattle.sym_base.specs.declared.limits.TheConstants.Limits.{OBJECTS, SHARED_HISTORY}
use Rattle.script_types.specs.declared.script.Script.{Script}
use Rattle.script_types.specs.Source.{IsWellFormed}
use Rattle.entry_log.specs.declared.entry.Entry.{Entry}
use Rattle.machine.specs.Arrived.{arrived_in}
use Rattle.machine.specs.Boot.{uses_again}
use Rattle.machine.specs.Choice.{priority_of}
use Rattle.machine.specs.History.{after_in, IsIdle, IsLegalIn}
use Rattle.table_moves.specs.Notes.{Notes}
use Rattle.kernel_tables.specs.CoreView.{CoreView}
use Rattle.kernel_tables.specs.ReadyQueues.{AreReady}
use Rattle.kcore.specs.KernelMode.{KernelMode}
use Rattle.kcore.specs.Outgoing.{AreOutgoing}

-- its script, its history, the entries that it has room for, how it was called, the words that count references, and the notes of those words
pub record KernelView (W : Type 0) : Type 0 where
  pub script : Script
  pub history : List Entry
  pub room : ℕ
  pub mode : KernelMode
  pub words : W
  pub notes : Notes

-- The script is valid, the history is one of it, as one caller makes it or as callers make it who share the kernel; the core's tables stand for the
-- state after it, its queues have the threads that are ready then, in order of arrival, and its notes that are out are of those who are out.
pub record Stands {W : Type 0} (shared : Bool) (script : Script) (history : List Entry) (core : CoreView W) : Type 0 where
  pub valid : IsWellFormed script
  pub legal : IsLegalIn shared script history
  pub state : core.state ≡ after_in shared script history
  pub queues : AreReady (priority_of core.state) (arrived_in shared script history) core.ready
  pub notes : AreOutgoing shared history core.state core.notes

-- how many places a kernel's words need that has room for so many entries: one for each number, or where numbers are used again one for each
-- entry and 128 for the objects at boot
abbrev pub places_for : ℕ → ℕ → ℕ
places_for version room = if uses_again version then room + 128 else OBJECTS

-- a kernel stands for its history, and there is room for its entries, and a place for what each makes; it knows how many are out; it is marked as idle
-- only if nobody could act; and nobody shares it that has no entries yet
pub record IsKernel {W : Type 0} (script : Script) (history : List Entry) (core : CoreView W) (out : ℕ) (idle : Bool) (room capacity : ℕ) : Type 0 where
  pub fits : room ≤ capacity
  pub few : room ≤ SHARED_HISTORY
  pub places : core.notes.places ≡ places_for script.version room
  pub short : length history ≤ room
  pub stands : Stands core.state.mode.shared script history core
  pub counted : out ≡ length core.notes.out
  pub rests : idle ≡ true → IsIdle script core.state
  pub fresh : history ≡ [] → core.state.mode.shared ≡ false
