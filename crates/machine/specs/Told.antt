-- What effects tell of an object's life: how often they say that it died, was swept, or was found by name.
use Rattle.std.specs.Prelude.{ℕ, ◌+◌, List, [], ◌∷◌}
use Rattle.sym_base.specs.declared.number.ObjNo.{ObjNo}
use Rattle.entry_log.specs.declared.effect.Effect.{Effect}
use Rattle.entry_log.specs.declared.effect.Effect.TheVariants.{Dead, Swept, Seek}
use Rattle.machine.specs.References.{same}

-- how often effects say that the object's last reference went
abbrev pub deaths : List Effect → ObjNo → ℕ
deaths [] o = 0
deaths (Dead x ∷ rest) o = same x o + deaths rest o
deaths (_ ∷ rest) o = deaths rest o

-- how often effects say that the object's row went
abbrev pub removals : List Effect → ObjNo → ℕ
removals [] o = 0
removals (Swept x ∷ rest) o = same x o + removals rest o
removals (_ ∷ rest) o = removals rest o

-- how often effects say that the object was found by its name
abbrev pub finds : List Effect → ObjNo → ℕ
finds [] o = 0
finds (Seek x ∷ rest) o = same x o + finds rest o
finds (_ ∷ rest) o = finds rest o
