-- Effects tell of no death where none of them is one.
use Rattle.std.proofs.Common.{◌≡◌, List, [], ◌∷◌, refl}
use Rattle.std.specs.Prelude.{not}
use Rattle.std.specs.List.{list_any}
use Rattle.entry_log.specs.declared.effect.Effect.{Effect}
use Rattle.entry_log.specs.declared.effect.Effect.TheVariants.{Dead}
use Rattle.machine.specs.History.{is_deathless}
use Rattle.plain_machine.specs.Deaths.{is_death}

pub none_dead : (effects : List Effect) → not (list_any is_death effects) ≡ is_deathless effects
none_dead [] = refl
none_dead (Dead o ∷ rest) = refl
none_dead (_ ∷ rest) = none_dead rest
