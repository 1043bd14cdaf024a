-- What the lines so far make: the script, and what may follow.
use Rattle.std.specs.Prelude.{ℕ, Bool, true, false, ◌==◌, ◌||◌, nat_le, List, [], ◌∷◌, ◌++◌, length, fold, replicate, Option, Some, None}
use Rattle.script_types.specs.declared.context.Context.{Context}
use Rattle.script_types.specs.declared.declaration.ThreadDecl.{ThreadDecl}
use Rattle.script_types.specs.declared.instruction.Instr.{Instr}
use Rattle.script_types.specs.declared.script.Script.{Script}
use Rattle.script_types.specs.declared.script.Slot.TheVariants as slot
use Rattle.script_types.specs.declared.source_line.LineKind.{LineKind}
use Rattle.script_types.specs.declared.source_line.LineKind.TheVariants as of
use Rattle.script_types.specs.declared.source_line.SourceLine.{SourceLine}
use Rattle.script_types.specs.declared.source_line.SourceLine.TheVariants as line

abbrev pub empty_script : Script
empty_script = record { version = 1; pool = 0; fast = 0; queues = []; dfcs = []; idfcs = []; irqs = []; processes = []; threads = []; slots = [] }

-- before the first line
abbrev pub start : Context
start = record { script = empty_script; rank = None; awaits_thread = false }

-- the kind of a line
abbrev pub kind_of : SourceLine → LineKind
kind_of (line.Header version) = of.Header
kind_of (line.Pool count) = of.Pool
kind_of (line.Fast count) = of.Fast
kind_of (line.Queue name priority) = of.Queue
kind_of (line.Dfc name queue priority body) = of.Dfc
kind_of (line.Idfc name body) = of.Idfc
kind_of (line.IrqBody k body) = of.IrqBody
kind_of (line.KernelThread name priority held) = of.KernelThread
kind_of (line.Process name) = of.Process
kind_of (line.Thread name priority held) = of.Thread
kind_of (line.Instr what) = of.Instr
kind_of line.Schedule = of.Schedule
kind_of (line.Go count) = of.Slot
kind_of (line.IrqSlot k) = of.Slot
kind_of line.Tick = of.Slot
kind_of line.End = of.End

-- the rank of a line. An instruction has the rank of its thread
abbrev pub rank_of : ℕ → LineKind → ℕ
rank_of rank of.Header = 0
rank_of rank of.Pool = 1
rank_of rank of.Fast = 2
rank_of rank of.Queue = 3
rank_of rank of.Dfc = 4
rank_of rank of.Idfc = 5
rank_of rank of.IrqBody = 6
rank_of rank of.KernelThread = 7
rank_of rank of.Process = 8
rank_of rank of.Thread = 8
rank_of rank of.Instr = rank
rank_of rank of.Schedule = 9
rank_of rank of.Slot = 10
rank_of rank of.End = 11

-- Which lines may stand behind one of this rank. Ranks don't fall. The header, `schedule` and `end` stand
-- once. A thread needs a process, an instruction a thread, and a slot `schedule`.
abbrev pub may_follow : ℕ → LineKind → Bool
may_follow rank of.Header = false
may_follow rank of.Thread = rank == 8
may_follow rank of.Instr = (rank == 7) || (rank == 8)
may_follow rank of.Schedule = nat_le rank 8
may_follow rank of.Slot = (rank == 9) || (rank == 10)
may_follow rank of.End = nat_le rank 10
may_follow rank kind = nat_le rank (rank_of rank kind)

abbrev pub is_header : LineKind → Bool
is_header of.Header = true
is_header _ = false

abbrev pub is_thread : LineKind → Bool
is_thread of.Thread = true
is_thread _ = false

abbrev pub is_process : LineKind → Bool
is_process of.Process = true
is_process _ = false

-- which lines may stand here: first the header, behind a process its thread
abbrev pub may_stand : Option ℕ → Bool → LineKind → Bool
may_stand None awaits kind = is_header kind
may_stand (Some rank) true kind = is_thread kind
may_stand (Some rank) false kind = may_follow rank kind

abbrev pub is_in_order : Context → LineKind → Bool
is_in_order c kind = may_stand c.rank c.awaits_thread kind

-- one more instruction of the last thread
abbrev pub with_instr : List ThreadDecl → Instr → List ThreadDecl
with_instr [] what = []
with_instr (thread ∷ []) what = record thread { instrs = thread.instrs ++ what ∷ [] } ∷ []
with_instr (thread ∷ next ∷ threads) what = thread ∷ with_instr (next ∷ threads) what

-- the number of the last process
abbrev pub last_of : {A : Type 0} → List A → ℕ
last_of [] = 0
last_of (x ∷ xs) = length xs

-- the script with one more line
abbrev pub told : Script → SourceLine → Script
told s (line.Header version) = record s { version = version }
told s (line.Pool count) = record s { pool = count }
told s (line.Fast count) = record s { fast = count }
told s (line.Queue name priority) = record s { queues = s.queues ++ record { name = name; priority = priority } ∷ [] }
told s (line.Dfc name queue priority body) = record s { dfcs = s.dfcs ++ record { name = name; queue = queue; priority = priority; body = body } ∷ [] }
told s (line.Idfc name body) = record s { idfcs = s.idfcs ++ record { name = name; body = body } ∷ [] }
told s (line.IrqBody k body) = record s { irqs = s.irqs ++ record { number = k; body = body } ∷ [] }
told s (line.KernelThread name priority held) = record s {
  threads = s.threads ++ record { name = name; priority = priority; held = held; process = None; instrs = [] } ∷ [];
}
told s (line.Process name) = record s { processes = s.processes ++ record { name = name } ∷ [] }
told s (line.Thread name priority held) = record s {
  threads =
      s.threads ++ record {
        name = name;
        priority = priority;
        held = held;
        process = Some (last_of s.processes);
        instrs = [];
      } ∷ [];
}
told s (line.Instr what) = record s { threads = with_instr s.threads what }
told s line.Schedule = s
told s (line.Go count) = record s { slots = s.slots ++ replicate count slot.Go }
told s (line.IrqSlot k) = record s { slots = s.slots ++ slot.Irq k ∷ [] }
told s line.Tick = record s { slots = s.slots ++ slot.Tick ∷ [] }
told s line.End = s

abbrev pub rank_or : Option ℕ → ℕ
rank_or None = 0
rank_or (Some rank) = rank

-- what one more line makes
abbrev pub after : Context → SourceLine → Context
after c l = record {
  script = told c.script l;
  rank = Some (rank_of (rank_or c.rank) (kind_of l));
  awaits_thread = is_process (kind_of l);
}

-- what lines make
abbrev pub after_all : Context → List SourceLine → Context
after_all c lines = fold after c lines

-- whether the last line was `end`
abbrev pub is_ended : Context → Bool
is_ended c = rank_or c.rank == 11
