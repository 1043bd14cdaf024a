-- The count of an object after the first entries of a history, read off the history alone.
use Rattle.std.specs.Prelude.{ℕ, ◌+◌, ◌-◌, nat_lt, ◌&&◌, ◌==◌, Bool, false, is_none, if◌then◌else◌, find, List, [], ◌∷◌, ◌++◌, Option, Some, None}
use Rattle.sym_base.specs.declared.number.ObjNo.{ObjNo}
use Rattle.script_types.specs.declared.script.Script.{Script}
use Rattle.entry_log.specs.declared.effect.Holder.{Holder}
use Rattle.entry_log.specs.declared.effect.Holder.TheVariants.{Temp}
use Rattle.entry_log.specs.declared.effect.Effect.{Effect}
use Rattle.entry_log.specs.declared.effect.Effect.TheVariants.{Plus}
use Rattle.entry_log.specs.declared.entry.Actor.{Actor}
use Rattle.entry_log.specs.declared.entry.Actor.TheVariants.{Thread}
use Rattle.entry_log.specs.declared.entry.Entry.{Entry}
use Rattle.machine.specs.References.{count_of, pluses, minuses}
use Rattle.machine.specs.Boot.{boot}
use Rattle.machine.specs.Told.{finds, removals}
use Rattle.machine.specs.Holding.{same_pair}

-- the effects of entries, in order
abbrev pub effects_of : List Entry → List Effect
effects_of [] = []
effects_of (e ∷ es) = e.effects ++ effects_of es

-- whether this thread acts
abbrev pub is_by : ObjNo → Actor → Bool
is_by t (Thread u) = u.0 == t.0
is_by t _ = false

-- the first entry of a thread
abbrev pub first_by : ObjNo → List Entry → Option Entry
first_by t es = find (λ e. is_by t e.actor) es

-- how often effects give a holder a reference to an object
abbrev pub pluses_by : List Effect → Holder → ObjNo → ℕ
pluses_by [] g x = 0
pluses_by (Plus h o ∷ rest) g x = same_pair h o g x + pluses_by rest g x
pluses_by (_ ∷ rest) g x = pluses_by rest g x

-- whether an entry gives the thread a temporary reference to the object
abbrev pub opens : ObjNo → ObjNo → Option Entry → Bool
opens t o None = false
opens t o (Some e) = nat_lt 0 (pluses_by e.effects (Temp t) o)

-- whether an actor's next entry isn't among the first ones, but later, and opens the object
abbrev pub opens_later : Actor → List Entry → List Entry → ObjNo → Bool
opens_later (Thread t) first later o = is_none (first_by t first) && opens t o (first_by t later)
opens_later _ first later o = false

-- how often entries find an object that their thread's return opens later
abbrev pub finds_to_open : List Entry → List Entry → ObjNo → ℕ
finds_to_open [] later o = 0
finds_to_open (e ∷ es) later o = (if opens_later e.actor es later o then finds e.effects o else 0) + finds_to_open es later o

-- the entries behind the last one that says that the object's row went, all where none does: with these the life of its number begins that is the
-- last among them
abbrev pub since_swept : List Entry → ObjNo → List Entry
since_swept [] o = []
since_swept (e ∷ es) o = if nat_lt 0 (removals (effects_of (e ∷ es)) o) then since_swept es o else e ∷ es

-- how many references the object has before these: those at boot, where its number wasn't another's since
abbrev pub count_before : Script → List Entry → ObjNo → ℕ
count_before script es o = if nat_lt 0 (removals (effects_of es) o) then 0 else count_of (boot script) o

-- The count of an object after the first entries of a history, the later ones being the rest of it: the references at
-- boot, with those that effects add and without those that they take away, and with one for each find whose return
-- comes later and opens the object; but of all these only what stands behind the last sweep of its number.
abbrev pub count_after : Script → List Entry → List Entry → ObjNo → ℕ
count_after script first later o =
    count_before script first o + pluses (effects_of (since_swept first o)) o - minuses (effects_of (since_swept first o)) o
    + finds_to_open (since_swept first o) later o
