-- What the moves of an action leave in the state and in the queues.
use Rattle.std.specs.Prelude.{◌≡◌, ◌≤◌, ◌++◌, ◌&&◌, Bool, [], length, List}
use Rattle.sym_base.specs.declared.number.ObjNo.{ObjNo}
use Rattle.script_types.specs.declared.script.Script.{Script}
use Rattle.entry_log.specs.declared.effect.Effect.{Effect}
use Rattle.ready_list.specs.Ready.{Ready}
use Rattle.machine.specs.declared.decision.Decision.{Decision}
use Rattle.machine.specs.declared.moves.Move.{Move}
use Rattle.machine.specs.declared.state.State.{State}
use Rattle.machine.specs.Arrivals.{arrivals}
use Rattle.machine.specs.Choice.{priority_of}
use Rattle.machine.specs.History.{is_deathless, keeping}
use Rattle.machine.specs.Moves.{perform, tell}
use Rattle.machine.specs.References.{total}
use Rattle.kernel_tables.specs.Choosing.{closing_bit}
use Rattle.kernel_tables.specs.CoreView.{CoreView}
use Rattle.kernel_tables.specs.Moved.{MovesGo, making_bit}
use Rattle.kernel_tables.specs.ReadyQueues.{AreReady}

-- the moves of an action of thread t go through with either choice, and tell what an entry has room for; and one of them at most gives a
-- reference up, and one makes an object
pub record ActionGoes (script : Script) (t : ObjNo) (ms : List Move) (S : State) : Type 0 where
  pub each : (keep : Bool) → MovesGo script t ms (keeping keep S)
  pub few : (keep : Bool) → length (tell t ms (keeping keep S)) ≤ 4
  pub once : total closing_bit ms ≤ 1
  pub makes : total making_bit ms ≤ 1

-- The moves were made, with the choice that stands in the new state: that is the one after them, what they tell comes behind what was told
-- before, and the queues have the threads that arrived along them. The choice is still open where they tell of no death.
pub record IsPerformed (script : Script) (t : ObjNo) (ms : List Move) (old new : State) (before after : Ready) (was is : List Effect) : Type 0 where
  pub state : new ≡ perform t ms (keeping new.mode.keep old)
  pub told : is ≡ was ++ tell t ms (keeping new.mode.keep old)
  pub queues : (qs : List ObjNo) → AreReady (priority_of old) qs before → AreReady (priority_of new) (arrivals script t ms (keeping new.mode.keep old) qs) after
  pub keeps : new.mode.keep ≡ (old.mode.keep && is_deathless (tell t ms (keeping new.mode.keep old)))

-- an action of thread t was made in a core: this was decided and stands there, its moves went through, and what they tell is told. Whoever
-- isn't ready any more stands in the queues still
pub record IsMade {W : Type 0} (script : Script) (t : ObjNo) (d : Decision) (old new : CoreView W) (effects : List Effect) : Type 0 where
  pub decided : new.decision ≡ d
  pub notes : new.notes ≡ old.notes
  pub went : MovesGo script t d.moves (keeping new.state.mode.keep old.state)
  pub performed : IsPerformed script t d.moves old.state new.state old.ready new.ready [] effects
