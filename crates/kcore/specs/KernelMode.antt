-- How a kernel was called since boot.
use Rattle.std.specs.Prelude.{◌≢◌, Bool, true, false, List, [], ◌∷◌}
use Rattle.entry_log.specs.declared.entry.Entry.{Entry}

-- not yet, by one caller alone, or by callers who share it
pub data KernelMode : Type 0 where
  Fresh Whole Split : KernelMode

-- the mode of a history that one caller made alone, or callers who share the kernel
abbrev pub mode_of : Bool → List Entry → KernelMode
mode_of shared [] = Fresh
mode_of false (e ∷ es) = Whole
mode_of true (e ∷ es) = Split

-- one caller alone may go on unless a kernel is split, and callers who share it unless it is whole
abbrev pub Suits : Bool → KernelMode → Type 0
Suits false mode = mode ≢ Split
Suits true mode = mode ≢ Whole
