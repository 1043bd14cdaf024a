-- What it does to give a ticket back.
use Rattle.std.specs.Prelude.{◌≡◌, ◌≢◌, ◌<◌, ◌⊎◌, ℕ, true, false, List, [], ◌∷◌, length, Some, None}
use Rattle.sym_base.specs.declared.number.ObjNo.{ObjNo}
use Rattle.entry_log.specs.declared.effect.Effect.{Effect}
use Rattle.entry_log.specs.declared.effect.Effect.TheVariants.{Plus, Missed}
use Rattle.entry_log.specs.declared.effect.Holder.TheVariants.{Temp}
use Rattle.entry_log.specs.declared.entry.Entry.{Entry}
use Rattle.count_rule.specs.Seats.{Note}
use Rattle.state_rows.specs.ObjectRows.{place_of}
use Rattle.machine.specs.declared.state.State.{State}
use Rattle.machine.specs.Boot.{boot_in, uses_again}
use Rattle.machine.specs.History.{after_in, next_by}
use Rattle.machine.specs.Out.{is_out, seeks}
use Rattle.machine.specs.Rows.{object_of, thread_of}
use Rattle.machine.specs.Told.{deaths}
use Rattle.script_types.specs.declared.script.Script.{Script}
use Rattle.machine_safe.specs.CountAfter.{effects_of, since_swept}
use Rattle.turn_lock.specs.declared.view.Sight.{Sight}
use Rattle.kcore.specs.Finds.{finder}
use Rattle.kcore.specs.OneMore.{ReturnsBy}
use Rattle.shared_kernel.specs.declared.base.KernelBase.{KernelBase}
use Rattle.shared_kernel.specs.Turned.{Turned}

-- the ticket is of this kernel's words and of a find of this thread, and hasn't opened its object yet
pub record IsFound (b : KernelBase) (history : List Entry) (t : ObjNo) (ticket : Note) : Type 0 where
  pub unopened : ticket.found ≡ None
  pub same_words : ticket.identity ≡ b.identity
  pub its : finder ticket.slip.number history ≡ Some t

-- it may come back: it has opened its object, or found it dead
pub record IsOpened (b : KernelBase) (history : List Entry) (t : ObjNo) (ticket : Note) : Type 0 where
  pub opened : ticket.found ≢ None
  pub same_words : ticket.identity ≡ b.identity
  pub its : finder ticket.slip.number history ≡ Some t

-- a thread uses an object that it found and that didn't die: its number tells no death since it was last swept, and none at all where no number is used
-- again
pub record Uses (script : Script) (old : List Entry) (t o : ObjNo) (effects : List Effect) : Type 0 where
  pub lives : deaths (effects_of (since_swept old o)) o ≡ 0
  pub never : uses_again script.version ≡ false → deaths (effects_of old) o ≡ 0
  pub effect : effects ≡ Plus (Temp t) o ∷ []

-- an entry tells the death of the object of this number, which has this place
abbrev pub Dies : Script → State → Entry → ObjNo → ℕ → Type 0
Dies script S e o place = (0 < deaths e.effects o) × (place_of (object_of (next_by script S e) o) ≡ place)

-- one of the entries from a state on tells it
abbrev pub Died : Script → State → List Entry → ObjNo → ℕ → Type 0
Died script S [] o place = ⊥
Died script S (e ∷ es) o place = Dies script S e o place ⊎ Died script (next_by script S e) es o place

-- it misses one that died
pub record Misses (script : Script) (old : List Entry) (o : ObjNo) (place : ℕ) (effects : List Effect) : Type 0 where
  pub died : Died script (boot_in true script) old o place
  pub told : 0 < deaths (effects_of old) o
  pub effect : effects ≡ Missed o ∷ []

-- the history is longer by the thread's return, which stands at this place; the thread was out on an object of a place, and uses it from then on, or
-- misses it where its death is told before
pub record GivesBack (b : KernelBase) (t : ObjNo) (place : ℕ) (old new : List Entry) : Type 0 where
  pub made : ReturnsBy b.script old new t
  pub was_out : is_out (after_in true b.script old) t ≡ true
  pub object : ObjNo
  pub sought : ℕ
  pub found : 0 < seeks object sought (thread_of (after_in true b.script old) t)
  pub tells : Uses b.script old t object made.more.entry.effects ⊎ Misses b.script old object sought made.more.entry.effects
  pub at : place ≡ length new

-- what a caller sees who gave one back
abbrev pub GaveBackBy : KernelBase → Sight KernelBase → Sight KernelBase → ObjNo → ℕ → Type 0
GaveBackBy b old new t place = Turned old new (GivesBack b t place)
