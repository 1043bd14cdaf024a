-- What a reader knows of the names that the lines of a whole file declare.
use Rattle.std.specs.Borrow.{Bor}
use Rattle.std.specs.BTreeSet.{BTreeSet, contains, contains_by}
use Rattle.std.specs.Cmp.Lexicographic.{slice_cmp}
use Rattle.std.specs.List.{list_any}
use Rattle.std.specs.Ordering.{nat_cmp}
use Rattle.std.specs.Prelude.{◌≡◌, ◌<◌, ℕ, Bool, true, false, IsTrue, if◌then◌else◌, List, Option, Some, None, codes, decimal}
use Rattle.std.specs.Str.{bytes_eq}
use Rattle.script_read.specs.declared.declarations.Declarations.{Declarations}
use Rattle.script_read.specs.declared.declarations.FileNames.{FileNames}
use Rattle.script_types.specs.Names.{Declared, file_declares, first_two, is_declared, is_thread_declared, is_irq_declared}
use Rattle.script_types.specs.SourceText.{is_skipped, text_lines}
use Rattle.script_types.specs.declared.instruction.Instr.TheVariants as instr
use Rattle.script_types.specs.declared.source_line.SourceLine.{SourceLine}
use Rattle.script_types.specs.declared.source_line.SourceLine.TheVariants as line

-- what a line of these words declares, where it isn't skipped
abbrev pub declared_by : List (List ℕ) → Option Declared
declared_by words = if is_skipped words then None else Some (first_two words)

-- a line names what another line declares
abbrev pub names_something : SourceLine → Bool
names_something (line.Dfc name queue priority body) = true
names_something (line.Idfc name body) = true
names_something (line.IrqBody k body) = true
names_something (line.IrqSlot k) = true
names_something (line.Instr (instr.Fssignal name)) = true
names_something (line.Instr (instr.Queue name)) = true
names_something _ = false

-- a set of names has this one
abbrev pub has_name : BTreeSet (Bor (List ℕ)) → List ℕ → Bool
has_name names name = contains_by (λ known. slice_cmp nat_cmp name known.now) names

-- a line is `schedule`
abbrev pub is_schedule : Declared → Bool
is_schedule two = bytes_eq two.0 (codes "schedule")

-- of each name, and of each number that an interrupt may have, it is known whether lines declare it
pub record Knows (d : Declarations) (file : List Declared) : Type 0 where
  pub threads : (name : List ℕ) → has_name d.threads name ≡ is_thread_declared file name
  pub queues : (name : List ℕ) → has_name d.queues name ≡ is_declared file (codes "dfcq") name
  pub dfcs : (name : List ℕ) → has_name d.dfcs name ≡ is_declared file (codes "dfc") name
  pub idfcs : (name : List ℕ) → has_name d.idfcs name ≡ is_declared file (codes "idfc") name
  pub irqs : (k : ℕ) → k < 256 → contains nat_cmp d.irqs k ≡ is_irq_declared file (decimal k)
  pub scheduled : d.scheduled ≡ list_any is_schedule file

-- of a file's text it is known what its lines declare, where they are read
abbrev pub AreKnown : FileNames → Type 0
AreKnown names = IsTrue names.are_read → Knows names.declarations (file_declares (text_lines names.text.now))
