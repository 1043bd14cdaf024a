-- The counts that the kernel keeps.
use Rattle.std.specs.Prelude.{◌≡◌, ℕ, ◌+◌, List, slice_index}
use Rattle.sym_base.specs.declared.number.ObjNo.{ObjNo}
use Rattle.entry_log.specs.declared.effect.Effect.{Effect}
use Rattle.machine.specs.declared.state.State.{State}
use Rattle.machine.specs.References.{count_of, pluses, minuses}

-- each kept count is the number of references
abbrev pub Agrees : List ℕ → State → Type 0
Agrees counts S = (o : ObjNo) → slice_index counts o.0 ≡ count_of S o

-- the kept counts move as the effects say
abbrev pub CountsMove : List ℕ → List ℕ → List Effect → Type 0
CountsMove old new effects = (o : ObjNo) → slice_index new o.0 + minuses effects o ≡ slice_index old o.0 + pluses effects o
