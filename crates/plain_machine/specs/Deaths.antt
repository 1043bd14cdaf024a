-- Whether an effect tells of a death.
use Rattle.std.specs.Prelude.{Bool, true, false}
use Rattle.entry_log.specs.declared.effect.Effect.{Effect}
use Rattle.entry_log.specs.declared.effect.Effect.TheVariants.{Dead}

abbrev pub is_death : Effect → Bool
is_death (Dead o) = true
is_death _ = false
