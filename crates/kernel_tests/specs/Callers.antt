-- Callers of a shared kernel, who keep the notes of the threads that are out.
use Rattle.std.specs.Prelude.{◌≡◌, ℕ, List, Option, Some, None, get_or, set, true}
use Rattle.sym_base.specs.declared.number.ObjNo.{ObjNo}
use Rattle.ref_words.specs.declared.slip.Slip.{Slip}
use Rattle.ref_words.specs.Words.{Words}
use Rattle.table_moves.specs.Notes.{IsNoteOut}
use Rattle.kcore.specs.Finds.{finder}
use Rattle.kcore.specs.KernelMode.{Suits}
use Rattle.kcore.specs.KernelView.{KernelView}

-- a note that is out, of a find of the thread with this number
pub record IsNoteOf (k : KernelView Words) (t : ℕ) (s : Slip) : Type 0 where
  pub noted : IsNoteOut k.notes s
  pub its : finder s.number k.history ≡ Some (record { 0 = t })

-- nobody had the kernel alone, it has room for so many entries, and each note at the number of a thread is that thread's
pub record AreCallers (room : ℕ) (k : KernelView Words) (notes : List (Option Slip)) : Type 0 where
  pub suits : Suits true k.mode
  pub room_is : k.room ≡ room
  pub each : (t : ℕ) (s : Slip) → get_or notes t None ≡ Some s → IsNoteOf k t s

-- the notes once a call of a thread answered this
abbrev pub notes_kept : List (Option Slip) → ℕ → Option Slip → List (Option Slip)
notes_kept notes t None = notes
notes_kept notes t (Some s) = set notes t (Some s)
