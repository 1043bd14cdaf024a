-- The places that a kernel's words have are enough at boot.
use Rattle.std.proofs.Common.{◌≡◌, ◌+◌, ◌≤◌, ℕ, Bool, false, true, arith}
use Rattle.std.specs.Prelude.{if◌then◌else◌}
use Rattle.sym_base.specs.declared.limits.TheConstants.Limits.{OBJECTS}

-- the objects at boot have places, and where no number is used again each number has
pub enough : (again : Bool) (room : ℕ) → 81 ≤ (if again then room + 128 else OBJECTS)
enough true room = omega arith
enough false room = omega arith

pub each : (again : Bool) (room : ℕ) → again ≡ false → OBJECTS ≤ (if again then room + 128 else OBJECTS)
each true room first = absurd (cc)
each false room first = omega arith
