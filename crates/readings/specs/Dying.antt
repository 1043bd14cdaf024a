-- The object that dies of a move, and what the move tells but for that. A death is told behind the rest: who shares the kernel with others
-- knows only after a close whether the object died of it.
use Rattle.std.specs.Prelude.{if◌then◌else◌, List, [], ◌∷◌, Option, Some, None}
use Rattle.sym_base.specs.declared.number.ObjNo.{ObjNo}
use Rattle.entry_log.specs.declared.effect.Effect.{Effect}
use Rattle.entry_log.specs.declared.effect.Effect.TheVariants.{Dead, Minus}
use Rattle.state_rows.specs.declared.duty.Owed.TheVariants.{Close}
use Rattle.machine.specs.declared.moves.Move.{Move}
use Rattle.machine.specs.declared.moves.Move.TheVariants.{Lose, Pay}
use Rattle.machine.specs.declared.state.State.{State}
use Rattle.machine.specs.Kept.{dies}
use Rattle.machine.specs.Moves.{told}

-- the object that dies of a move, if one does
abbrev pub dead_by : Move → State → Option ObjNo
dead_by (Lose h o) S = if dies S o then Some o else None
dead_by (Pay (Close h o)) S = if dies S o then Some o else None
dead_by _ S = None

-- what is told of a death
abbrev pub dead_told : Option ObjNo → List Effect
dead_told None = []
dead_told (Some o) = Dead o ∷ []

-- what a move tells but for a death
abbrev pub told_alive : Move → State → List Effect
told_alive (Lose h o) S = Minus h o ∷ []
told_alive (Pay (Close h o)) S = Minus h o ∷ []
told_alive m S = told m S
