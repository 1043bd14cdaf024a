-- What a history tells of the state that it leaves.
use Rattle.std.specs.Prelude.{◌≡◌, ◌≤◌, Bool, List, ◌++◌, None}
use Rattle.sym_base.specs.declared.number.ObjNo.{ObjNo}
use Rattle.script_types.specs.declared.script.Script.{Script}
use Rattle.entry_log.specs.declared.effect.Holder.{Holder}
use Rattle.entry_log.specs.declared.entry.Entry.{Entry}
use Rattle.state_rows.specs.ServerRows.{server_at}
use Rattle.machine.specs.declared.state.State.{State}
use Rattle.machine.specs.Fresh.{IsFresh}
use Rattle.machine.specs.HeldIn.{held_in}
use Rattle.machine.specs.History.{after, after_in}
use Rattle.machine.specs.Holding.{held_after_all, held_at_boot}
use Rattle.machine.specs.References.{count_of}
use Rattle.machine.specs.Rows.{object_of}
use Rattle.machine_safe.specs.CountAfter.{effects_of, count_after}

-- a holder has the references that it had at boot, with those that effects add and without those that they take away
abbrev pub HoldersAreTold : Bool → Script → List Entry → Type 0
HoldersAreTold shared script history =
    (g : Holder) (x : ObjNo) → held_in (after_in shared script history) g x
    ≡ held_after_all (held_at_boot script) (effects_of history) g x

-- a holder has one reference to an object at most
abbrev pub HoldersAreUnique : Bool → Script → List Entry → Type 0
HoldersAreUnique shared script history = (g : Holder) (x : ObjNo) → held_in (after_in shared script history) g x ≤ 1

-- nothing is left of a number but its history: it is fresh, and is no server
pub record HasNothing (S : State) (o : ObjNo) : Type 0 where
  pub fresh : IsFresh S o
  pub server : server_at S.serving.servers o ≡ None

-- so it is with each number that no object has: also where it was another object's, the next one that gets it finds nothing
abbrev pub LeavesNothing : Bool → Script → List Entry → Type 0
LeavesNothing shared script history = (o : ObjNo) → object_of (after_in shared script history) o ≡ None → HasNothing (after_in shared script history) o

-- after each of its entries, the count that a legal history tells is 0 exactly where the state's is. Where callers share the kernel an object may
-- have no reference and be opened later, so this is said of one caller alone
pub record TellsZero (script : Script) (history : List Entry) : Type 0 where
  pub told : (first later : List Entry) (o : ObjNo) → history ≡ first ++ later → count_of (after script first) o ≡ 0 → count_after script first later o ≡ 0
  pub counted : (first later : List Entry) (o : ObjNo) → history ≡ first ++ later → count_after script first later o ≡ 0 → count_of (after script first) o ≡ 0
