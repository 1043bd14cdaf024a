-- What a contract sees of a run of a schedule.
use Rattle.std.specs.Prelude.{◌≡◌, ℕ, ◌+◌, ◌≤◌, ◌++◌, Bool, false, List, length, drop, take}
use Rattle.script_types.specs.declared.script.Script.{Script}
use Rattle.entry_log.specs.declared.entry.Entry.{Entry}
use Rattle.machine.specs.Run.{run}
use Rattle.kernel_tables.specs.CoreView.{CoreView}
use Rattle.kcore.specs.KernelView.{IsKernel}

-- its script, how many slots it has taken, the entries of these, which it doesn't keep, those of the slots that are left, the entries of its last part,
-- and how many a part has at most
pub record ScheduleView : Type 0 where
  pub script : Script
  pub taken : ℕ
  pub history : List Entry
  pub left : List Entry
  pub part : List Entry
  pub size : ℕ

-- the entries of the slots taken and of those that are left are those of the script's run
abbrev pub view_of : Script → ℕ → List Entry → ℕ → ScheduleView
view_of script taken part size = record {
  script = script;
  taken = taken;
  history = take taken (run script);
  left = drop taken (run script);
  part = part;
  size = size;
}

-- it stands as a kernel does for the entries of the slots that it has taken, with room for an entry a slot; nobody shares it
pub record IsScheduleRun {W : Type 0} (script : Script) (taken : ℕ) (core : CoreView W) (idle : Bool) : Type 0 where
  pub few : taken ≤ length script.slots
  pub alone : core.state.mode.shared ≡ false
  pub kernel : IsKernel script (take taken (run script)) core 0 idle (length script.slots) (length script.slots)

-- one slot more was taken, and its entry came behind those of the part
pub record TakesOne (old new : ScheduleView) : Type 0 where
  pub script : new.script ≡ old.script
  pub size : new.size ≡ old.size
  pub taken : new.taken ≡ old.taken + 1
  pub part : new.part ≡ old.part ++ take 1 old.left
  pub longer : length new.part ≡ length old.part + 1
  pub history : new.history ≡ old.history ++ take 1 old.left
  pub left : new.left ≡ drop 1 old.left
