-- The first register that an instruction names is one of the eight.
use Rattle.std.proofs.Common.{◌≡◌, ℕ, ◌<◌, subst, Some}
use Rattle.std.specs.List.{slice_get}
use Rattle.script_types.specs.Shape.{HasRegisters, registers_of}
use Rattle.script_types.specs.declared.instruction.Instr.{Instr}
use Rattle.script_types.proofs.LimitLaws.{at_place}

pub register_first : (what known : Instr) (x : ℕ) → what ≡ known → HasRegisters what
    → slice_get (registers_of known) 0 ≡ Some x → x < 8
register_first what known x is all there = at_place (λ y. y < 8) (registers_of known) (subst HasRegisters is all) 0 x there
