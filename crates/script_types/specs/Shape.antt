-- What holds of every valid script, whichever forms of line the grammar has: the kernel's tables have
-- room for it, and what it names by number is there.
use Rattle.std.specs.List.{AllByRecursion, list_all}
use Rattle.std.specs.Prelude.{◌≡◌, ◌==◌, ◌||◌, ℕ, ◌+◌, ◌<◌, ◌≤◌, Bool, if◌then◌else◌, nat_le, IsTrue, List, [], ◌∷◌, ◌++◌, Some, length, slice_get}
use Rattle.script_types.specs.Forms.{instr_form, operands_of}
use Rattle.script_types.specs.Operands.{Value, Values}
use Rattle.script_types.specs.Resolves.{DoNamesResolve, AreNumbersInRange}
use Rattle.script_types.specs.declared.declaration.DfcDecl.{DfcDecl}
use Rattle.script_types.specs.declared.declaration.IdfcDecl.{IdfcDecl}
use Rattle.script_types.specs.declared.declaration.IrqBody.{IrqBody}
use Rattle.script_types.specs.declared.declaration.Op.{Op}
use Rattle.script_types.specs.declared.declaration.ThreadDecl.{ThreadDecl}
use Rattle.script_types.specs.declared.instruction.Instr.{Instr}
use Rattle.script_types.specs.declared.operand.Operand.{Operand}
use Rattle.script_types.specs.declared.operand.Operand.TheVariants as operand
use Rattle.script_types.specs.declared.script.Script.{Script}

-- the registers that an operand names: one of handles, `r`, or one of messages, `m`
abbrev pub register_in : (what : Operand) → Value what → List ℕ
register_in (operand.Lettered letter last) x = if letter == 114 || letter == 109 then x ∷ [] else []
register_in _ x = []

abbrev pub registers_in : (operands : List Operand) → Values operands → List ℕ
registers_in [] values = []
registers_in (what ∷ operands) values = register_in what values.0 ++ registers_in operands values.1

-- those that an instruction names
abbrev pub registers_of : Instr → List ℕ
registers_of what = let f = instr_form what in registers_in (operands_of f.keyword f.second) f.values

-- each of them is one of the eight
abbrev pub HasRegisters : Instr → Type 0
HasRegisters what = AllByRecursion (λ x. x < 8) (registers_of what)

-- a thread of a script with so many processes
pub record IsShapedThread (processes : ℕ) (thread : ThreadDecl) : Type 0 where
  pub priority : thread.priority ≤ 63
  pub process : (p : ℕ) → thread.process ≡ Some p → p < processes
  pub registers : (k : ℕ) (what : Instr) → slice_get thread.instrs k ≡ Some what → HasRegisters what
  pub size : length thread.instrs ≤ 16384

-- a body has at most four operations
abbrev pub is_short : List Op → Bool
is_short body = nat_le (length body) 4

-- a script: at most 7 queues, 64 deferred function calls, 64 immediate ones and 32 interrupts, each with a short body;
-- at most 16 processes, at most 64 threads with the supervisor and those of the queues, and at most 65,536 slots; what
-- it names is declared, and its numbers are in their ranges
pub record IsShaped (script : Script) : Type 0 where
  pub queues : length script.queues ≤ 7
  pub dfcs : length script.dfcs ≤ 64
  pub idfcs : length script.idfcs ≤ 64
  pub irqs : length script.irqs ≤ 32
  pub dfc_bodies : IsTrue (list_all (λ (d : DfcDecl). is_short d.body) script.dfcs)
  pub idfc_bodies : IsTrue (list_all (λ (d : IdfcDecl). is_short d.body) script.idfcs)
  pub irq_bodies : IsTrue (list_all (λ (i : IrqBody). is_short i.body) script.irqs)
  pub processes : length script.processes ≤ 16
  pub count : length script.threads + length script.queues ≤ 63
  pub threads : (k : ℕ) (thread : ThreadDecl) → slice_get script.threads k ≡ Some thread → IsShapedThread (length script.processes) thread
  pub slots : length script.slots ≤ 65536
  pub names : DoNamesResolve script
  pub numbers : AreNumbersInRange script
