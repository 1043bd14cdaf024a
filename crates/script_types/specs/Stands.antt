-- Which lines may stand behind those so far.
use Rattle.std.specs.Prelude.{ℕ, ◌+◌, Bool, true, false, ◌&&◌, ◌||◌, nat_le, nat_lt, not, IsTrue, ⊤, List, [], ◌∷◌, length, fold}
use Rattle.script_types.specs.Context.{is_in_order, kind_of, after}
use Rattle.script_types.specs.declared.context.Context.{Context}
use Rattle.script_types.specs.Names.{Declared, has_rank, is_known, is_new}
use Rattle.script_types.specs.Ranges.{is_source_line}
use Rattle.script_types.specs.declared.declaration.ThreadDecl.{ThreadDecl}
use Rattle.script_types.specs.declared.instruction.Instr.{Instr}
use Rattle.script_types.specs.declared.instruction.Instr.TheVariants as instr
use Rattle.script_types.specs.declared.source_line.SourceLine.{SourceLine}
use Rattle.script_types.specs.declared.source_line.SourceLine.TheVariants as line

-- an instruction of kernel threads alone
abbrev pub is_kernel_only : Instr → Bool
is_kernel_only (instr.Flock x) = true
is_kernel_only (instr.Funlock x) = true
is_kernel_only instr.Fswait = true
is_kernel_only (instr.Fssignal name) = true
is_kernel_only instr.Enter = true
is_kernel_only instr.Leave = true
is_kernel_only (instr.Queue name) = true
is_kernel_only _ = false

-- the instructions of kernel threads stand in one; its rank is 7
abbrev pub is_right_kind : Context → SourceLine → Bool
is_right_kind c (line.Instr what) = not (is_kernel_only what) || has_rank c.rank 7
is_right_kind c _ = true

-- the instructions of all threads, and those of the last one
abbrev pub all_instrs : List ThreadDecl → ℕ
all_instrs threads = fold (λ n (t : ThreadDecl). n + length t.instrs) 0 threads

abbrev pub last_instrs : List ThreadDecl → ℕ
last_instrs [] = 0
last_instrs (thread ∷ []) = length thread.instrs
last_instrs (thread ∷ next ∷ threads) = last_instrs (next ∷ threads)

-- Behind a line no number of the script is past its limit: 7 queues, 64 deferred function calls, 64
-- immediate ones, 32 interrupts, 4 operations of a body, 16 processes, 64 threads with the supervisor and those of
-- the queues, 16,384 instructions of a thread and 65,536 of all, and 65,536 slots.
abbrev pub is_within : Context → SourceLine → Bool
is_within c (line.Queue name priority) = nat_lt (length c.script.queues) 7
is_within c (line.Dfc name queue priority body) = nat_lt (length c.script.dfcs) 64 && nat_le (length body) 4
is_within c (line.Idfc name body) = nat_lt (length c.script.idfcs) 64 && nat_le (length body) 4
is_within c (line.IrqBody k body) = nat_lt (length c.script.irqs) 32 && nat_le (length body) 4
is_within c (line.KernelThread name priority held) = nat_lt (length c.script.queues + length c.script.threads) 63
is_within c (line.Process name) = nat_lt (length c.script.processes) 16
is_within c (line.Thread name priority held) = nat_lt (length c.script.queues + length c.script.threads) 63
is_within c (line.Instr what) = nat_lt (last_instrs c.script.threads) 16384 && nat_lt (all_instrs c.script.threads) 65536
is_within c (line.Go count) = nat_le (length c.script.slots + count) 65536
is_within c (line.IrqSlot k) = nat_lt (length c.script.slots) 65536
is_within c line.Tick = nat_lt (length c.script.slots) 65536
is_within c _ = true

-- a line may stand here, in a file that declares this much
pub record Stands (file : List Declared) (c : Context) (l : SourceLine) : Type 0 where
  pub order : IsTrue (is_in_order c (kind_of l))
  pub ranges : IsTrue (is_source_line l)
  pub kind : IsTrue (is_right_kind c l)
  pub new : IsTrue (is_new c l)
  pub known : IsTrue (is_known file c l)
  pub within : IsTrue (is_within c l)

-- each line may stand behind those before it
abbrev pub AllStand : List Declared → Context → List SourceLine → Type 0
AllStand file c [] = ⊤
AllStand file c (l ∷ ls) = Stands file c l × AllStand file (after c l) ls
