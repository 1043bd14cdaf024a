-- The values that the locks keep: a kernel whose callers share it, driven by its schedule or freely.
use Rattle.std.specs.Prelude.{◌≡◌, ◌≤◌, ◌+◌, ◌*◌, ℕ, true, List, length}
use Rattle.script_types.specs.declared.script.Slot.{Slot}
use Rattle.script_types.specs.Source.{IsWellFormed}
use Rattle.machine.specs.SharedRun.{slots_taken, IsSharedPart}
use Rattle.ref_words.specs.Words.{Words}
use Rattle.kcore.specs.KernelMode.{Suits}
use Rattle.kcore.specs.KernelView.{KernelView}
use Rattle.shared_kernel.specs.declared.base.KernelBase.{KernelBase}

abbrev pub base_of : KernelView Words → KernelBase
base_of k = record { script = k.script; identity = k.notes.identity }

-- a kernel of a valid script with room for as many entries as a history may have, which callers share, or may: there is room for the returns of
-- those who are out
pub record IsShareable (k : KernelView Words) : Type 0 where
  pub valid : IsWellFormed k.script
  pub mode : Suits true k.mode
  pub room : k.room ≡ 131072
  pub back : length k.history + length k.notes.out ≤ 131072

-- Driven by its schedule: the history is a part of a run of it, in which so many slots are taken. Each slot makes an entry, and a return at most.
pub record IsScheduled (k : KernelView Words) (schedule : List Slot) (count : ℕ) : Type 0 where
  pub shareable : IsShareable k
  pub part : IsSharedPart k.script k.history
  pub slots : schedule ≡ k.script.slots
  pub taken : count ≡ slots_taken k.history
  pub two : length k.history + length k.notes.out ≤ 2 * count
