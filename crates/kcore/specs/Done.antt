-- What an action leaves in the core: what it does to the definitions' state and to the list of ready threads.
use Rattle.std.specs.Prelude.{◌≡◌, ◌&&◌, List, []}
use Rattle.sym_base.specs.declared.number.ObjNo.{ObjNo}
use Rattle.script_types.specs.declared.script.Script.{Script}
use Rattle.entry_log.specs.declared.effect.Effect.{Effect}
use Rattle.entry_log.specs.declared.entry.Actor.{Actor}
use Rattle.ready_list.specs.Ready.{Ready}
use Rattle.machine.specs.declared.decision.Decision.{Decision}
use Rattle.machine.specs.declared.decision.Outcome.{Outcome}
use Rattle.machine.specs.declared.state.State.{State}
use Rattle.machine.specs.Arrivals.{ready_after}
use Rattle.machine.specs.Arrived.{arrived_next}
use Rattle.machine.specs.Choice.{priority_of}
use Rattle.machine.specs.History.{is_deathless, keeping, transition}
use Rattle.machine.specs.Transition.{Transition, carried_out, left}
use Rattle.machine.specs.WellFormed.{IsReadyList}
use Rattle.kernel_tables.specs.CoreView.{CoreView}
use Rattle.kernel_tables.specs.Moved.{MovesRun}
use Rattle.kernel_tables.specs.Performed.{IsPerformed}
use Rattle.kernel_tables.specs.ReadyQueues.{AreReady}

-- An action was made: the new state is the one that it left, of which this is told; and where the old queues had the list of ready threads, the
-- new ones have what it was changed to. Whether it kept what it closed stands in the new state: it did unless it tells of a death.
pub record Does (script : Script) (old : State) (before : Ready) (new : State) (after : Ready) (outcome : Outcome)
    (done : State → Transition) (change : State → List ObjNo → List ObjNo) : Type 0 where
  pub did : left new outcome ≡ done (keeping new.mode.keep old)
  pub mode : new.mode ≡ record old.mode { keep = old.mode.keep && is_deathless outcome.effects }
  pub queues : (qs : List ObjNo) → IsReadyList script old qs → AreReady (priority_of old) qs before
      → AreReady (priority_of new) (change (keeping new.mode.keep old) qs) after

-- An action of thread t was made in a core: this was decided and stands there, what its moves left is in order, and what they tell is told. Whoever
-- isn't ready any more stands in the queues still.
pub record WasMade {W : Type 0} (script : Script) (t : ObjNo) (d : Decision) (old new : CoreView W) (effects : List Effect) : Type 0 where
  pub decided : new.decision ≡ d
  pub runs : MovesRun script t d.moves (keeping new.state.mode.keep old.state)
  pub performed : IsPerformed script t d.moves old.state new.state old.ready new.ready [] effects

-- the action of thread t that was decided on
abbrev pub CarriesOut : {W : Type 0} → Script → ObjNo → CoreView W → CoreView W → Outcome → Decision → Type 0
CarriesOut script t old new outcome d =
    Does script old.state old.ready new.state new.ready outcome (λ S. carried_out script t S d)
    (ready_after script t d.moves)

-- the action of an actor
abbrev pub Acts : {W : Type 0} → Script → CoreView W → CoreView W → Outcome → Actor → Type 0
Acts script old new outcome actor =
    Does script old.state old.ready new.state new.ready outcome (λ S. transition script S actor)
    (λ S. arrived_next script S actor)
