-- The queues of ready threads, and how they follow the list of them.
use Rattle.std.specs.Prelude.{◌≡◌, ℕ, ◌<◌, true, if◌then◌else◌, List, [], ◌∷◌, map}
use Rattle.sym_base.specs.declared.limits.TheConstants.Limits.{BOOT_OBJECTS}
use Rattle.sym_base.specs.declared.number.ObjNo.{ObjNo}
use Rattle.script_types.specs.declared.script.Script.{Script}
use Rattle.ready_list.specs.Ready.{Ready}
use Rattle.ready_list.specs.Arrival.{AreQueuesOf}
use Rattle.machine.specs.declared.moves.Move.{Move}
use Rattle.machine.specs.declared.state.State.{State}
use Rattle.machine.specs.Arrivals.{arrive, is_listed, taken_out, touched, unlisted}
use Rattle.machine.specs.Choice.{priority_of}
use Rattle.machine.specs.Task.{is_ready}
use Rattle.machine.specs.WellFormed.{AreApart}

-- a thread with its priority, and each of a list
abbrev pub pair : (ObjNo → ℕ) → ObjNo → ObjNo × ℕ
pair rank t = (t, rank t)

abbrev pub pairs : (ObjNo → ℕ) → List ObjNo → List (ObjNo × ℕ)
pairs rank qs = map (pair rank) qs

-- the queues have these ready threads by their priorities, each once and in order of arrival; processes and
-- threads have the least numbers
pub record AreReady (rank : ObjNo → ℕ) (qs : List ObjNo) (r : Ready) : Type 0 where
  pub queues : AreQueuesOf (pairs rank qs) r
  pub once : AreApart qs
  pub known : (t : ObjNo) → is_listed qs t ≡ true → t.0 < BOOT_OBJECTS
  pub size : r.threads ≡ BOOT_OBJECTS

-- the queues change as the list of ready threads does, whichever it is
abbrev pub Follow : (ObjNo → ℕ) → (List ObjNo → List ObjNo) → Ready → Ready → Type 0
Follow rank change old new = (qs : List ObjNo) → AreReady rank qs old → AreReady rank (change qs) new

-- the queues follow a move of an action of thread t, by which the state became S: whom it takes out leaves, and then those come that it touched
pub record FollowsMove (script : Script) (t : ObjNo) (m : Move) (S : State) (old new : Ready) : Type 0 where
  pub between : Ready
  pub leaves : (rank : ObjNo → ℕ) → Follow rank (taken_out m) old between
  pub comes : Follow (priority_of S) (arrive script S (touched t m)) between new

-- threads leave a list, those that aren't ready
abbrev pub leave : Script → State → List ObjNo → List ObjNo → List ObjNo
leave script S [] qs = qs
leave script S (u ∷ us) qs = leave script S us (if is_ready script S u then qs else unlisted u qs)

-- those leave that the moves of an action of thread t touched
abbrev pub leave_along : Script → State → ObjNo → List Move → List ObjNo → List ObjNo
leave_along script S t [] qs = qs
leave_along script S t (m ∷ ms) qs = leave_along script S t ms (leave script S (touched t m) qs)
