use Rattle.machine_safe.proofs.Held.{held_as_told, held_once}
use Rattle.machine_safe.proofs.told.holders_are_told.Goals as goal

pub returns : goal.returns
returns c = record {
  told = λ shared legal. held_as_told shared _ _ c.requires.valid legal;
  unique = λ shared legal. held_once shared _ _ c.requires.valid legal;
}
