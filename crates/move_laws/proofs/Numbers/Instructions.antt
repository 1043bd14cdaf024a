-- How many instructions a thread has.
use Rattle.std.proofs.Common.{◌≡◌, ◌≤◌, length, arith, refl, Option, Some, None}
use Rattle.script_types.specs.declared.declaration.ThreadDecl.{ThreadDecl}
use Rattle.script_types.specs.declared.script.Script.{Script}
use Rattle.script_types.specs.Shape.{IsShaped}
use Rattle.state_rows.specs.declared.thread.Role.{Role}
use Rattle.state_rows.specs.declared.thread.Role.TheVariants.{Supervisor, Queue, Declared}
use Rattle.machine.specs.Task.{declared_of, instructions_in, instructions_of}

few_in : (script : Script) → IsShaped script → (role : Role) (declared : Option ThreadDecl)
    → declared_of script role ≡ declared → length (instructions_in declared) ≤ 16384
few_in script shaped role None at = omega arith
few_in script shaped Supervisor (Some declared) at = absurd (cc)
few_in script shaped (Queue queue) (Some declared) at = absurd (cc)
few_in script shaped (Declared k) (Some declared) at = (shaped.threads k declared at).size

-- a thread has at most 16,384 instructions
pub few_instructions : (script : Script) (role : Role) → IsShaped script → length (instructions_of script role) ≤ 16384
few_instructions script role shaped = few_in script shaped role (declared_of script role) refl
