-- What the tables keep beside the rows of threads.
use Rattle.std.specs.Prelude.{◌≡◌, ℕ, ◌<◌, ◌≤◌, false, List, length, map, Option, None}
use Rattle.std.specs.List.{slice_index_or}
use Rattle.sym_base.specs.declared.limits.TheConstants.Limits.{BOOT_OBJECTS, OBJECTS}
use Rattle.sym_base.specs.declared.number.ObjNo.{ObjNo}
use Rattle.state_rows.specs.declared.thread.ThreadRow.{ThreadRow}
use Rattle.machine.specs.Choice.{priority_of_row}
use Rattle.machine.specs.Moves.{use_of_row}
use Rattle.kernel_tables.specs.declared.tables.Tables.{Tables}
use Rattle.kernel_tables.specs.Counts.{Agrees}
use Rattle.kernel_tables.specs.StateOf.{state_of}

-- the priorities by which waiters are served are those of the threads' rows
abbrev pub AreRanked : List ℕ → List (Option ThreadRow) → Type 0
AreRanked priorities threads = (u : ObjNo) → slice_index_or priorities u.0 0 ≡ priority_of_row (slice_index_or threads u.0 None)

-- What is kept beside the rows of threads is what they say: what each uses is noted for its death, and its priority among waiters is its
-- own. The lists have room for each object, and the priorities for each thread.
pub record AreTied (temporary : List (Option ObjNo)) (objects : ℕ) (priorities : List ℕ) (threads : List (Option ThreadRow)) : Type 0 where
  pub uses : temporary ≡ map use_of_row threads
  pub ranks : AreRanked priorities threads
  pub listed : objects ≡ OBJECTS
  pub ranked : length priorities ≡ BOOT_OBJECTS

-- the same of tables
abbrev pub TiedTables : {W N : Type 0} → Tables W N → Type 0
TiedTables tables = AreTied tables.cleanup.temporary tables.cleanup.objects tables.locks.priorities tables.procs.threads

-- What the tables keep beside the rows is what the rows say: each count is the number of references, and what is kept of
-- threads is theirs. The numbers of messages so far have 31 bits, so that they are answers. The table of objects uses numbers again where the
-- kernel does, and where it doesn't its words have a place for each number.
pub record AreKept {W N : Type 0} (tables : Tables W N) : Type 0 where
  pub counts : Agrees tables.objects.counts (state_of tables)
  pub tied : TiedTables tables
  pub numbered : tables.messages.accepted < 2147483648
  pub reuses : tables.objects.reuse ≡ tables.mode.reuse
  pub placed : tables.objects.reuse ≡ false → OBJECTS ≤ tables.objects.notes.places
