-- The action that an entry tells.
use Rattle.std.specs.Prelude.{◌≡◌, ℕ, ◌+◌, List, [], ◌∷◌, ◌++◌, length}
use Rattle.sym_base.specs.declared.number.ObjNo.{ObjNo}
use Rattle.script_types.specs.declared.script.Script.{Script}
use Rattle.entry_log.specs.declared.entry.Actor.{Actor}
use Rattle.entry_log.specs.declared.entry.Actor.TheVariants.{Thread}
use Rattle.entry_log.specs.declared.entry.Entry.{Entry}
use Rattle.machine.specs.History.{entry_of}
use Rattle.machine.specs.Interrupts.{supervisor}
use Rattle.kernel_tables.specs.CoreView.{CoreView}
use Rattle.kcore.specs.Done.{Acts}
use Rattle.kcore.specs.Told.{told_in}

-- the thread in whose place an actor acts: where it isn't one, the supervisor's
abbrev pub acting : Actor → ObjNo
acting (Thread t) = t
acting _ = supervisor

-- an actor that isn't a thread
abbrev pub IsNoThread : Actor → Type 0
IsNoThread (Thread t) = ⊥
IsNoThread _ = Unit {0}

-- an actor acted, and the entry of this place that came behind others tells it
pub record WentAt {W : Type 0} (script : Script) (place : ℕ) (entries new : List Entry) (old core : CoreView W) (actor : Actor) : Type 0 where
  pub entry : Entry
  pub longer : new ≡ entries ++ entry ∷ []
  pub told : entry ≡ entry_of place actor (told_in entry)
  pub does : Acts script old core (told_in entry) actor

-- and the others are the history before
abbrev pub Went : {W : Type 0} → Script → List Entry → List Entry → CoreView W → CoreView W → Actor → Type 0
Went script history new old core actor = WentAt script (length history + 1) history new old core actor
