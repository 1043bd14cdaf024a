-- Who is left out at the end of a history. Where callers share the kernel an object may have no reference and live on, since somebody is out
-- on it; where he doesn't come back within the history, it doesn't tell whether he would have opened it.
use Rattle.std.specs.Prelude.{◌≡◌, ◌<◌, Bool, true, false, List, ◌∷◌, ◌++◌, None}
use Rattle.sym_base.specs.declared.number.ObjNo.{ObjNo}
use Rattle.entry_log.specs.declared.entry.Actor.TheVariants.{Thread}
use Rattle.entry_log.specs.declared.entry.Entry.{Entry}
use Rattle.machine.specs.Told.{finds, removals}
use Rattle.machine_safe.specs.CountAfter.{effects_of, first_by}

-- one of the first entries finds the object, no later one of them says that its row went, and the finder has no entry afterwards, neither among
-- these nor later
pub record IsLeftOut (first later : List Entry) (o : ObjNo) : Type 0 where
  pub before : List Entry
  pub find : Entry
  pub between : List Entry
  pub stands : first ≡ before ++ find ∷ between
  pub thread : ObjNo
  pub actor : find.actor ≡ Thread thread
  pub found : 0 < finds find.effects o
  pub stays : removals (effects_of between) o ≡ 0
  pub gone : first_by thread (between ++ later) ≡ None

-- this excuses a count of 0 without a death where callers share the kernel, and nothing does else
abbrev pub IsExcused : Bool → List Entry → List Entry → ObjNo → Type 0
IsExcused true first later o = IsLeftOut first later o
IsExcused false first later o = ⊥
