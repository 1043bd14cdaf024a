-- `tick`: a time slice ends. The state stays, and in the ready list the thread of greatest priority that has been ready
-- longest goes behind its equals, unless it holds a fast mutex.
use Rattle.std.specs.Prelude.{List, [], ◌∷◌, ◌++◌, Option, Some, None}
use Rattle.sym_base.specs.declared.number.ObjNo.{ObjNo}
use Rattle.entry_log.specs.declared.step.Step.TheVariants.{Turn}
use Rattle.state_rows.specs.Nano.{turned}
use Rattle.machine.specs.declared.state.State.{State}
use Rattle.machine.specs.Arrivals.{unlisted}
use Rattle.machine.specs.Choice.{first_ready}
use Rattle.machine.specs.Transition.{Transition}

-- a list of ready threads, where this one gets a new arrival
abbrev pub moved_behind : List ObjNo → Option ObjNo → List ObjNo
moved_behind qs None = qs
moved_behind qs (Some t) = unlisted t qs ++ t ∷ []

-- the ready list after the end of a time slice
abbrev pub after_tick : State → List ObjNo → List ObjNo
after_tick S qs = moved_behind qs (turned S.synchronization.nano (first_ready S qs))

-- the end of a time slice
abbrev pub tick : State → Transition
tick S = record { state = S; outcome = record { step = Turn; effects = []; answer = None } }
