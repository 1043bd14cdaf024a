-- Finds and returns: who is out has found an object and hasn't come back.
use Rattle.std.specs.Prelude.{◌≡◌, ◌<◌, ℕ, ◌+◌, Bool, true, false, if◌then◌else◌, List, [], ◌∷◌, ◌++◌, Option, None}
use Rattle.sym_base.specs.declared.number.ObjNo.{ObjNo}
use Rattle.script_types.specs.declared.script.Script.{Script}
use Rattle.entry_log.specs.declared.effect.Effect.{Effect}
use Rattle.entry_log.specs.declared.effect.Effect.TheVariants.{Seek}
use Rattle.entry_log.specs.declared.entry.Actor.{Actor}
use Rattle.entry_log.specs.declared.entry.Actor.TheVariants.{Thread}
use Rattle.entry_log.specs.declared.entry.Entry.{Entry}
use Rattle.state_rows.specs.declared.thread.ThreadRow.{ThreadRow}
use Rattle.machine.specs.declared.state.State.{State}
use Rattle.machine.specs.History.{after_in}
use Rattle.machine.specs.Out.{is_out, is_returning, part_of}
use Rattle.machine.specs.References.{total}
use Rattle.machine.specs.SharedRun.{is_return}
use Rattle.machine.specs.Told.{finds}
use Rattle.machine_safe.specs.CountAfter.{first_by, is_by}

-- 1 for an effect that tells of a find; and how many finds there are
abbrev pub seek_bit : Effect → ℕ
seek_bit (Seek o) = 1
seek_bit _ = 0

abbrev pub times_found : List Effect → ℕ
times_found effects = total seek_bit effects

abbrev pub finds_in : List Entry → ℕ
finds_in [] = 0
finds_in (e ∷ es) = times_found e.effects + finds_in es

-- how many entries are returns
abbrev pub returns_in : List Entry → ℕ
returns_in [] = 0
returns_in (e ∷ es) = (if is_return e.step then 1 else 0) + returns_in es

-- how many threads are between a find and their return
abbrev pub returning_bit : Option ThreadRow → ℕ
returning_bit row = if is_returning (part_of row) then 1 else 0

abbrev pub away : State → ℕ
away S = total returning_bit S.references.threads

-- As many threads are out as there are finds without their return. So where callers share the kernel nobody is out exactly if there are as many
-- returns as finds.
pub record AreFindsCounted (script : Script) (history : List Entry) : Type 0 where
  pub counted : away (after_in true script history) + returns_in history ≡ finds_in history
  pub back : returns_in history ≡ finds_in history → (t : ObjNo) → is_out (after_in true script history) t ≡ false
  pub all : ((t : ObjNo) → is_out (after_in true script history) t ≡ false) → returns_in history ≡ finds_in history

-- whether an actor is a thread that is out
abbrev pub is_out_actor : State → Actor → Bool
is_out_actor S (Thread t) = is_out S t
is_out_actor S _ = false

-- an entry is a return exactly if its actor is out before it
abbrev pub ReturnsExactly : Script → List Entry → Type 0
ReturnsExactly script history =
    (before : List Entry) (e : Entry) (later : List Entry) → history ≡ before ++ e ∷ later → is_return e.step
    ≡ is_out_actor (after_in true script before) e.actor

-- whoever found an object makes its return with its next entry
abbrev pub ComesBackNext : List Entry → Type 0
ComesBackNext history =
    (before : List Entry) (find : Entry) (between : List Entry) (back : Entry) (later : List Entry) (t o : ObjNo)
    → history ≡ before ++ find ∷ between ++ back ∷ later →
    find.actor ≡ Thread t → 0 < finds find.effects o → first_by t between ≡ None → is_by t back.actor ≡ true → is_return back.step ≡ true
