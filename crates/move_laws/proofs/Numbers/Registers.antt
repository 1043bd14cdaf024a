-- What holds of the instruction that a thread is at: its registers are there, what it names is declared, and its numbers are in
-- their ranges.
use Rattle.std.proofs.Common.{◌≡◌, ℕ, Bool, true, List, Some}
use Rattle.std.specs.List.{list_all}
use Rattle.script_types.specs.declared.declaration.ThreadDecl.{ThreadDecl}
use Rattle.script_types.specs.declared.instruction.Instr.{Instr}
use Rattle.script_types.specs.declared.script.Script.{Script}
use Rattle.script_types.specs.declared.source_line.SourceLine.TheVariants as line
use Rattle.script_types.specs.Ranges.{is_source_line}
use Rattle.script_types.specs.Resolves.{instr_resolves}
use Rattle.script_types.specs.Shape.{HasRegisters, IsShaped}
use Rattle.state_rows.specs.declared.thread.ThreadRow.{ThreadRow}
use Rattle.machine.specs.Task.{instruction}
use Rattle.machine.proofs.Instructions.{each_test, of_instruction}

-- a test that each instruction of a script passes
of_test : (script : Script) (test : Instr → Bool)
    → list_all (λ (t : ThreadDecl). list_all test t.instrs) script.threads ≡ true → (row : ThreadRow) (instr : Instr)
    → instruction script row ≡ Some instr → test instr ≡ true
of_test script test all row instr there = of_instruction script (λ what. test what ≡ true) (each_test script test all) row instr there

-- the registers that it names are there
pub has_registers : (script : Script) (row : ThreadRow) (instr : Instr) → IsShaped script → instruction script row ≡ Some instr → HasRegisters instr
has_registers script row instr shaped there = of_instruction script HasRegisters (λ k thread at. (shaped.threads k thread at).registers) row instr there

-- what it names is declared
pub has_names : (script : Script) (row : ThreadRow) (instr : Instr) → IsShaped script → instruction script row ≡ Some instr → instr_resolves script instr ≡ true
has_names script row instr shaped there = of_test script (instr_resolves script) shaped.names.instrs row instr there

-- its numbers are in their ranges
pub has_ranges : (script : Script) (row : ThreadRow) (instr : Instr) → IsShaped script
    → instruction script row ≡ Some instr → is_source_line (line.Instr instr) ≡ true
has_ranges script row instr shaped there = of_test script (λ what. is_source_line (line.Instr what)) shaped.numbers.instrs row instr there
