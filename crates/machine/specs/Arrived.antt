-- The ready list after a history, which stands beside the state: each actor's action changes it as its moves make threads
-- ready or not, and the end of a time slice moves the first thread behind its equals.
use Rattle.std.specs.Prelude.{Bool, false, List, [], ◌∷◌}
use Rattle.sym_base.specs.declared.number.ObjNo.{ObjNo}
use Rattle.script_types.specs.declared.script.Script.{Script}
use Rattle.entry_log.specs.declared.entry.Actor.{Actor}
use Rattle.entry_log.specs.declared.entry.Actor.TheVariants.{Thread, Irq, Idfc, Tick, Idle}
use Rattle.entry_log.specs.declared.entry.Entry.{Entry}
use Rattle.state_rows.specs.Deferred.{next_immediate}
use Rattle.machine.specs.declared.plan.Body.TheVariants.{Interrupt}
use Rattle.machine.specs.declared.plan.Plan.{Plan}
use Rattle.machine.specs.declared.plan.Plan.TheVariants.{Runs}
use Rattle.machine.specs.declared.state.State.{State}
use Rattle.machine.specs.Arrivals.{ready_after}
use Rattle.machine.specs.Bodies.{decision_by}
use Rattle.machine.specs.Boot.{boot_in, ready_at_boot}
use Rattle.machine.specs.History.{choosing, next_by}
use Rattle.machine.specs.Interrupts.{immediate_plan, supervisor}
use Rattle.machine.specs.Steps.{decision_of}
use Rattle.machine.specs.Tick.{after_tick}

-- the list after what is done without a thread
abbrev pub arrived_by : Script → State → Plan → List ObjNo → List ObjNo
arrived_by script S plan qs = ready_after script supervisor (decision_by script supervisor S plan).moves S qs

-- the list after what an actor does
abbrev pub arrived_next : Script → State → Actor → List ObjNo → List ObjNo
arrived_next script S (Thread t) qs = ready_after script t (decision_of script S t).moves S qs
arrived_next script S (Irq k) qs = arrived_by script S (Runs (Interrupt k)) qs
arrived_next script S Idfc qs = arrived_by script S (immediate_plan script S (next_immediate S.synchronization.deferred)) qs
arrived_next script S Tick qs = after_tick S qs
arrived_next script S Idle qs = qs

-- the list after an entry
abbrev pub arrived_by_entry : Script → State → Entry → List ObjNo → List ObjNo
arrived_by_entry script S e qs = arrived_next script (choosing e S) e.actor qs

-- the list after entries, from a state and its list on
abbrev pub arrived_from : Script → State → List ObjNo → List Entry → List ObjNo
arrived_from script S qs [] = qs
arrived_from script S qs (e ∷ es) = arrived_from script (next_by script S e) (arrived_by_entry script S e qs) es

-- the list after a history: the threads that are ready, in order of arrival
abbrev pub arrived_in : Bool → Script → List Entry → List ObjNo
arrived_in shared script history = arrived_from script (boot_in shared script) (ready_at_boot script) history

abbrev pub arrived : Script → List Entry → List ObjNo
arrived script history = arrived_in false script history
