-- What a valid script names is declared in it, and its numbers are in their ranges, whichever forms of line it has.
use Rattle.std.specs.List.{list_all, list_any}
use Rattle.std.specs.Prelude.{ℕ, ◌≤◌, Bool, true, ◌==◌, ◌&&◌, ◌||◌, nat_le, nat_lt, IsTrue, List, Some, codes}
use Rattle.std.specs.Str.{bytes_eq}
use Rattle.script_types.specs.Ranges.{is_body, is_source_line}
use Rattle.script_types.specs.declared.declaration.DfcDecl.{DfcDecl}
use Rattle.script_types.specs.declared.declaration.IdfcDecl.{IdfcDecl}
use Rattle.script_types.specs.declared.declaration.IrqBody.{IrqBody}
use Rattle.script_types.specs.declared.declaration.Op.{Op}
use Rattle.script_types.specs.declared.declaration.Op.TheVariants as op
use Rattle.script_types.specs.declared.declaration.QueueDecl.{QueueDecl}
use Rattle.script_types.specs.declared.declaration.ThreadDecl.{ThreadDecl}
use Rattle.script_types.specs.declared.instruction.Instr.{Instr}
use Rattle.script_types.specs.declared.instruction.Instr.TheVariants as instr
use Rattle.script_types.specs.declared.operand.BodyKind.TheVariants as body
use Rattle.script_types.specs.declared.script.Script.{Script}
use Rattle.script_types.specs.declared.script.Slot.{Slot}
use Rattle.script_types.specs.declared.script.Slot.TheVariants as slot
use Rattle.script_types.specs.declared.source_line.SourceLine.TheVariants as line

-- a queue of this name is declared, and the same of a thread, of deferred function calls, and of an interrupt
abbrev pub has_queue : Script → List ℕ → Bool
has_queue s name = list_any (λ (q : QueueDecl). bytes_eq name q.name) s.queues

abbrev pub has_thread : Script → List ℕ → Bool
has_thread s name = list_any (λ (t : ThreadDecl). bytes_eq name t.name) s.threads

abbrev pub has_dfc : Script → List ℕ → Bool
has_dfc s name = list_any (λ (d : DfcDecl). bytes_eq name d.name) s.dfcs

abbrev pub has_idfc : Script → List ℕ → Bool
has_idfc s name = list_any (λ (d : IdfcDecl). bytes_eq name d.name) s.idfcs

abbrev pub has_irq : Script → ℕ → Bool
has_irq s k = list_any (λ (i : IrqBody). i.number == k) s.irqs

-- the supervisor has a queue always, and each queue has a thread
abbrev pub is_queue : Script → List ℕ → Bool
is_queue s name = bytes_eq name (codes "supervisor") || has_queue s name

abbrev pub is_thread : Script → List ℕ → Bool
is_thread s name = has_thread s name || has_queue s name

-- what an operation, an instruction and a slot name is declared. The fast mutexes are those below the number of them
abbrev pub op_resolves : Script → Op → Bool
op_resolves s (op.Idfc name) = has_idfc s name
op_resolves s (op.Dfc name) = has_dfc s name
op_resolves s (op.Fssignal name) = is_thread s name
op_resolves s (op.Device x code) = true
op_resolves s (op.Queue name) = has_dfc s name

abbrev pub instr_resolves : Script → Instr → Bool
instr_resolves s (instr.Flock x) = nat_lt x s.fast
instr_resolves s (instr.Funlock x) = nat_lt x s.fast
instr_resolves s (instr.Fssignal name) = is_thread s name
instr_resolves s (instr.Queue name) = has_dfc s name
instr_resolves s _ = true

abbrev pub slot_resolves : Script → Slot → Bool
slot_resolves s (slot.Irq k) = has_irq s k
slot_resolves s _ = true

-- Names resolve: the queue of each deferred function call is one, and what each body, each instruction and each
-- slot names is declared.
pub record DoNamesResolve (s : Script) : Type 0 where
  pub queues : IsTrue (list_all (λ (d : DfcDecl). is_queue s d.queue) s.dfcs)
  pub dfcs : IsTrue (list_all (λ (d : DfcDecl). list_all (op_resolves s) d.body) s.dfcs)
  pub idfcs : IsTrue (list_all (λ (d : IdfcDecl). list_all (op_resolves s) d.body) s.idfcs)
  pub irqs : IsTrue (list_all (λ (i : IrqBody). list_all (op_resolves s) i.body) s.irqs)
  pub instrs : IsTrue (list_all (λ (t : ThreadDecl). list_all (instr_resolves s) t.instrs) s.threads)
  pub slots : IsTrue (list_all (slot_resolves s) s.slots)

-- Numbers are in their ranges: those of the settings, of each declaration, of each operation of a body, and each operand of each
-- instruction. A body has one operation at least.
pub record AreNumbersInRange (s : Script) : Type 0 where
  pub pool : s.pool ≤ 255
  pub fast : s.fast ≤ 16
  pub queues : IsTrue (list_all (λ (q : QueueDecl). nat_le q.priority 63) s.queues)
  pub dfcs : IsTrue (list_all (λ (d : DfcDecl). nat_le d.priority 7 && is_body (Some body.Call) d.body) s.dfcs)
  pub idfcs : IsTrue (list_all (λ (d : IdfcDecl). is_body (Some body.Call) d.body) s.idfcs)
  pub irqs : IsTrue (list_all (λ (i : IrqBody). nat_le i.number 31 && is_body (Some body.Interrupt) i.body) s.irqs)
  pub threads : IsTrue (list_all (λ (t : ThreadDecl). nat_le t.priority 63) s.threads)
  pub instrs : IsTrue (list_all (λ (t : ThreadDecl). list_all (λ what. is_source_line (line.Instr what)) t.instrs) s.threads)
