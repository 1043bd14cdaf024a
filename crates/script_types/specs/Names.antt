-- The names that lines declare, and those that they use.
use Rattle.std.specs.List.{list_all, list_any}
use Rattle.std.specs.Prelude.{ℕ, Bool, true, false, ◌==◌, ◌&&◌, ◌||◌, nat_lt, not, List, [], ◌∷◌, map, Option, Some, None, codes, decimal}
use Rattle.std.specs.Str.{bytes_eq}
use Rattle.script_types.specs.declared.context.Context.{Context}
use Rattle.script_types.specs.SourceText.{told_words}
use Rattle.script_types.specs.declared.declaration.DfcDecl.{DfcDecl}
use Rattle.script_types.specs.declared.declaration.IdfcDecl.{IdfcDecl}
use Rattle.script_types.specs.declared.declaration.IrqBody.{IrqBody}
use Rattle.script_types.specs.declared.declaration.Op.{Op}
use Rattle.script_types.specs.declared.declaration.Op.TheVariants as op
use Rattle.script_types.specs.declared.declaration.ProcessDecl.{ProcessDecl}
use Rattle.script_types.specs.declared.declaration.QueueDecl.{QueueDecl}
use Rattle.script_types.specs.declared.declaration.ThreadDecl.{ThreadDecl}
use Rattle.script_types.specs.declared.instruction.Instr.{Instr}
use Rattle.script_types.specs.declared.instruction.Instr.TheVariants as instr
use Rattle.script_types.specs.declared.script.Script.{Script}
use Rattle.script_types.specs.declared.source_line.SourceLine.{SourceLine}
use Rattle.script_types.specs.declared.source_line.SourceLine.TheVariants as line

-- the first two words of a line
abbrev pub Declared : Type 0
Declared = List ℕ × List ℕ

abbrev pub first_two : List (List ℕ) → Declared
first_two [] = ([], [])
first_two (first ∷ []) = (first, [])
first_two (first ∷ second ∷ words) = (first, second)

-- what the lines of a whole file declare: each by its first two words, also where it is bad
abbrev pub file_declares : List (List ℕ) → List Declared
file_declares lines = map first_two (told_words lines)

-- a line of the file declares a name of this sort
abbrev pub declares : List ℕ → List ℕ → Declared → Bool
declares sort name two = bytes_eq two.0 sort && bytes_eq two.1 name

abbrev pub is_declared : List Declared → List ℕ → List ℕ → Bool
is_declared file sort name = list_any (declares sort name) file

-- a thread, a kernel thread, or the thread of a queue
abbrev pub is_thread_declared : List Declared → List ℕ → Bool
is_thread_declared file name = is_declared file (codes "thread") name || is_declared file (codes "kthread") name || is_declared file (codes "dfcq") name

-- from the first `schedule` on a line declares no interrupt
abbrev pub is_irq_declared : List Declared → List ℕ → Bool
is_irq_declared [] number = false
is_irq_declared (two ∷ file) number = not (bytes_eq two.0 (codes "schedule")) && (declares (codes "irq") number two || is_irq_declared file number)

-- what an operation, an instruction and a line name is declared somewhere in the file. Fast mutexes are
-- those below the number that `fast` sets before
abbrev pub is_known_op : List Declared → Op → Bool
is_known_op file (op.Idfc name) = is_declared file (codes "idfc") name
is_known_op file (op.Dfc name) = is_declared file (codes "dfc") name
is_known_op file (op.Fssignal name) = is_thread_declared file name
is_known_op file (op.Device x code) = true
is_known_op file (op.Queue name) = is_declared file (codes "dfc") name

abbrev pub is_known_instr : List Declared → ℕ → Instr → Bool
is_known_instr file fast (instr.Flock x) = nat_lt x fast
is_known_instr file fast (instr.Funlock x) = nat_lt x fast
is_known_instr file fast (instr.Fssignal name) = is_thread_declared file name
is_known_instr file fast (instr.Queue name) = is_declared file (codes "dfc") name
is_known_instr file fast _ = true

abbrev pub is_known : List Declared → Context → SourceLine → Bool
is_known file c (line.Dfc name queue priority body) =
    (bytes_eq queue (codes "supervisor") || is_declared file (codes "dfcq") queue) && list_all (is_known_op file) body
is_known file c (line.Idfc name body) = list_all (is_known_op file) body
is_known file c (line.IrqBody k body) = list_all (is_known_op file) body
is_known file c (line.Instr what) = is_known_instr file c.script.fast what
is_known file c (line.IrqSlot k) = is_irq_declared file (decimal k)
is_known file c _ = true

-- a name of a thread so far, with those of queues and the supervisor, and a name of a process
abbrev pub is_thread_name : Script → List ℕ → Bool
is_thread_name s name =
    bytes_eq name (codes "supervisor") || list_any (λ (q : QueueDecl). bytes_eq name q.name) s.queues || list_any
    (λ (t : ThreadDecl). bytes_eq name t.name) s.threads

abbrev pub is_process_name : Script → List ℕ → Bool
is_process_name s name = bytes_eq name (codes "kernel") || list_any (λ (p : ProcessDecl). bytes_eq name p.name) s.processes

abbrev pub has_rank : Option ℕ → ℕ → Bool
has_rank None rank = false
has_rank (Some last) rank = last == rank

-- a line declares what no earlier line declared. Behind a line of its own rank `pool` or `fast` is a second one
abbrev pub is_new : Context → SourceLine → Bool
is_new c (line.Pool count) = not (has_rank c.rank 1)
is_new c (line.Fast count) = not (has_rank c.rank 2)
is_new c (line.Queue name priority) = not (is_thread_name c.script name)
is_new c (line.Dfc name queue priority body) = not (list_any (λ (d : DfcDecl). bytes_eq name d.name) c.script.dfcs)
is_new c (line.Idfc name body) = not (list_any (λ (d : IdfcDecl). bytes_eq name d.name) c.script.idfcs)
is_new c (line.IrqBody k body) = not (list_any (λ (i : IrqBody). i.number == k) c.script.irqs)
is_new c (line.KernelThread name priority held) = not (is_thread_name c.script name)
is_new c (line.Process name) = not (is_process_name c.script name)
is_new c (line.Thread name priority held) = not (is_thread_name c.script name)
is_new c _ = true
