-- The canonical text of a script: one text for each script, that tells just what the script holds.
use Rattle.std.specs.List.{filter, flat_map}
use Rattle.std.specs.Prelude.{ℕ, suc, Bool, true, false, ◌==◌, if◌then◌else◌, List, [], ◌∷◌, ◌++◌, map, Option, Some, None}
use Rattle.script_types.specs.SourceWords.{source_words}
use Rattle.script_types.specs.declared.declaration.DfcDecl.{DfcDecl}
use Rattle.script_types.specs.declared.declaration.IdfcDecl.{IdfcDecl}
use Rattle.script_types.specs.declared.declaration.IrqBody.{IrqBody}
use Rattle.script_types.specs.declared.declaration.ProcessDecl.{ProcessDecl}
use Rattle.script_types.specs.declared.declaration.QueueDecl.{QueueDecl}
use Rattle.script_types.specs.declared.declaration.ThreadDecl.{ThreadDecl}
use Rattle.script_types.specs.declared.instruction.Instr.{Instr}
use Rattle.script_types.specs.declared.script.Script.{Script}
use Rattle.script_types.specs.declared.script.Slot.{Slot}
use Rattle.script_types.specs.declared.script.Slot.TheVariants as slot
use Rattle.script_types.specs.declared.source_line.SourceLine.{SourceLine}
use Rattle.script_types.specs.declared.source_line.SourceLine.TheVariants as line

-- a setting has a line where it isn't 0
abbrev pub setting_lines : (ℕ → SourceLine) → ℕ → List SourceLine
setting_lines setting count = if count == 0 then [] else setting count ∷ []

-- the line of a queue, of a deferred function call, of an immediate one, and of the body of an interrupt
abbrev pub queue_line : QueueDecl → SourceLine
queue_line q = line.Queue q.name q.priority

abbrev pub dfc_line : DfcDecl → SourceLine
dfc_line d = line.Dfc d.name d.queue d.priority d.body

abbrev pub idfc_line : IdfcDecl → SourceLine
idfc_line d = line.Idfc d.name d.body

abbrev pub irq_line : IrqBody → SourceLine
irq_line i = line.IrqBody i.number i.body

-- The line of a thread, which is a kernel thread where it has no process. Behind it stand those of its
-- instructions.
abbrev pub thread_line : Option ℕ → ThreadDecl → SourceLine
thread_line None t = line.KernelThread t.name t.priority t.held
thread_line (Some number) t = line.Thread t.name t.priority t.held

abbrev pub thread_lines : ThreadDecl → List SourceLine
thread_lines t = thread_line t.process t ∷ map line.Instr t.instrs

-- whether two are the number of one process, or both of none; and the threads of a process, or those of none
abbrev pub is_same : Option ℕ → Option ℕ → Bool
is_same None None = true
is_same (Some one) (Some other) = one == other
is_same _ _ = false

abbrev pub threads_of : Option ℕ → List ThreadDecl → List ThreadDecl
threads_of owner threads = filter (λ (t : ThreadDecl). is_same owner t.process) threads

-- the line of a process, and behind it those of its threads
abbrev pub process_lines : List ThreadDecl → ℕ → ProcessDecl → List SourceLine
process_lines threads number p = line.Process p.name ∷ flat_map thread_lines (threads_of (Some number) threads)

-- the lines of processes that are numbered from this number on
abbrev pub processes_lines : List ThreadDecl → ℕ → List ProcessDecl → List SourceLine
processes_lines threads number [] = []
processes_lines threads number (p ∷ ps) = process_lines threads number p ++ processes_lines threads (suc number) ps

-- One more slot in front of lines of slots. Neighbouring slots in which the chosen actor acts share a line.
abbrev pub with_slot : Slot → List SourceLine → List SourceLine
with_slot slot.Go (line.Go count ∷ lines) = line.Go (suc count) ∷ lines
with_slot slot.Go lines = line.Go 1 ∷ lines
with_slot (slot.Irq k) lines = line.IrqSlot k ∷ lines
with_slot slot.Tick lines = line.Tick ∷ lines

abbrev pub slots_lines : List Slot → List SourceLine
slots_lines [] = []
slots_lines (s ∷ slots) = with_slot s (slots_lines slots)

-- a schedule without slots has no line
abbrev pub schedule_lines : List Slot → List SourceLine
schedule_lines [] = []
schedule_lines (s ∷ slots) = line.Schedule ∷ slots_lines (s ∷ slots)

-- the lines that declare what a script holds, and all its lines
abbrev pub declared_lines : Script → List SourceLine
declared_lines s =
    line.Header s.version
    ∷ (setting_lines line.Pool s.pool
    ++ setting_lines line.Fast s.fast
    ++ map queue_line s.queues
    ++ map dfc_line s.dfcs
    ++ map idfc_line s.idfcs
    ++ map irq_line s.irqs
    ++ flat_map thread_lines (threads_of None s.threads)
    ++ processes_lines s.threads 0 s.processes)

abbrev pub canonical_lines : Script → List SourceLine
canonical_lines s = declared_lines s ++ schedule_lines s.slots ++ line.End ∷ []

-- words with one space, which is 32, between two
abbrev pub spaced : List (List ℕ) → List ℕ
spaced [] = []
spaced (word ∷ words) = word ++ flat_map (λ (w : List ℕ). 32 ∷ w) words

-- the text of a line: its words, and a line feed, which is 10
abbrev pub source_text : SourceLine → List ℕ
source_text l = spaced (source_words l) ++ 10 ∷ []

abbrev pub source_texts : List SourceLine → List ℕ
source_texts lines = flat_map source_text lines

-- the text of an instruction's line
unfoldable pub instr_text : Instr → List ℕ
instr_text what = source_text (line.Instr what)

-- the canonical text
unfoldable pub canonical_text : Script → List ℕ
canonical_text s = source_texts (canonical_lines s)
