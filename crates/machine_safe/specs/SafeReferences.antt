-- Safe references: an object dies exactly where its last reference goes, and nobody opens it afterwards, also where its number is another object's
-- since. An object is a number within one of its lives, which end with the sweeps of its row.
use Rattle.std.specs.Prelude.{◌≡◌, ◌+◌, ◌<◌, ◌≤◌, ◌⊎◌, Bool, true, false, List, [], ◌∷◌, ◌++◌, None}
use Rattle.sym_base.specs.declared.number.ObjNo.{ObjNo}
use Rattle.script_types.specs.declared.script.Script.{Script}
use Rattle.entry_log.specs.declared.entry.Actor.TheVariants.{Thread}
use Rattle.entry_log.specs.declared.entry.Entry.{Entry}
use Rattle.machine.specs.Boot.{uses_again}
use Rattle.machine.specs.References.{pluses, minuses}
use Rattle.machine.specs.Told.{deaths, finds, removals}
use Rattle.machine.specs.Holding.{EachFitsHolders, held_at_boot}
use Rattle.machine_safe.specs.CountAfter.{effects_of, count_after, first_by, is_by}
use Rattle.machine_safe.specs.LeftOut.{IsExcused}

-- an entry says that the object died only where it takes a reference away and the count after it is 0
abbrev pub DiesOnlyAtZero : Script → List Entry → ObjNo → Type 0
DiesOnlyAtZero script history o = (before : List Entry) (e : Entry) (later : List Entry) → history ≡ before ++ e ∷ later →
    0 < deaths e.effects o → (0 < minuses e.effects o) × (count_after script (before ++ e ∷ []) later o ≡ 0)

-- an entry that takes a reference away, with the count after it 0, says that the object died, unless somebody is left out on it
abbrev pub DiesAtZero : Bool → Script → List Entry → ObjNo → Type 0
DiesAtZero shared script history o = (before : List Entry) (e : Entry) (later : List Entry) → history ≡ before ++ e ∷ later →
    0 < minuses e.effects o → count_after script (before ++ e ∷ []) later o ≡ 0 → (0 < deaths e.effects o) ⊎ IsExcused shared (before ++ e ∷ []) later o

-- A life of an object ends as its row is swept, and it dies once in it: each entry leaves it with at most one death more than sweeps, and with no more
-- sweeps than there were deaths before; and from an entry that says that it died until its sweep no entry adds a reference to it.
pub record DiesOnceALife (history : List Entry) (o : ObjNo) : Type 0 where
  pub dies : (before : List Entry) (e : Entry) (later : List Entry) → history ≡ before ++ e ∷ later
      → deaths (effects_of (before ++ e ∷ [])) o ≤ removals (effects_of before) o + 1
  pub swept : (before : List Entry) (e : Entry) (later : List Entry) → history ≡ before ++ e ∷ later
      → removals (effects_of (before ++ e ∷ [])) o ≤ deaths (effects_of before) o
  pub closed : (before : List Entry) (e : Entry) (until later : List Entry) → history ≡ before ++ e ∷ (until ++ later)
      → 0 < deaths e.effects o → removals (effects_of until) o ≡ 0 → pluses (effects_of until) o ≡ 0

-- Who found it before its death, or before its sweep, opens nothing as he comes back.
abbrev pub MissesTheDead : List Entry → ObjNo → Type 0
MissesTheDead history o =
    (before : List Entry) (find : Entry) (between : List Entry) (back : Entry) (later : List Entry) (t : ObjNo)
    → history ≡ before ++ find ∷ between ++ back ∷ later →
    find.actor ≡ Thread t → 0 < finds find.effects o → first_by t between ≡ None → is_by t back.actor ≡ true
    → 0 < deaths (effects_of between) o + removals (effects_of between) o → (x : ObjNo) → pluses back.effects x ≡ 0

-- Where no number is used again it has one life: it dies once at most, and after that no entry adds a reference to it.
pub record HasOneLife (history : List Entry) (o : ObjNo) : Type 0 where
  pub dies : deaths (effects_of history) o ≤ 1
  pub closed : (before : List Entry) (e : Entry) (later : List Entry) → history ≡ before ++ e ∷ later → 0 < deaths e.effects o → pluses (effects_of later) o ≡ 0

pub record IsSafeReferences (shared : Bool) (script : Script) (history : List Entry) : Type 0 where
  -- a Plus names a holder that doesn't hold the object then, and a Minus one that does
  pub holders : EachFitsHolders (held_at_boot script) (effects_of history)
  -- an object dies only where its last reference goes
  pub only : (o : ObjNo) → DiesOnlyAtZero script history o
  -- and always where it goes, unless somebody is left out on it
  pub always : (o : ObjNo) → DiesAtZero shared script history o
  -- it dies once a life, nobody opens it between its death and its sweep, also who found it before; and where numbers aren't used again, it has
  -- one life
  pub lives : (o : ObjNo) → DiesOnceALife history o
  pub missed : (o : ObjNo) → MissesTheDead history o
  pub once : uses_again script.version ≡ false → (o : ObjNo) → HasOneLife history o
