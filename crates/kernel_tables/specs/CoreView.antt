-- What a contract sees of the kernel's core, and what is true of each.
use Rattle.std.specs.Prelude.{◌≡◌}
use Rattle.sym_base.specs.declared.limits.TheConstants.Limits.{BOOT_OBJECTS}
use Rattle.script_types.specs.declared.script.Script.{Script}
use Rattle.script_types.specs.Shape.{IsShaped}
use Rattle.ready_list.specs.Ready.{Ready}
use Rattle.machine.specs.declared.decision.Decision.{Decision}
use Rattle.machine.specs.declared.state.State.{State}
use Rattle.machine.specs.WellFormed.{AreRows}
use Rattle.kernel_tables.specs.declared.tables.Tables.{Tables}
use Rattle.table_moves.specs.Notes.{Notes}
use Rattle.kernel_tables.specs.Noted.{AreKept}

-- the definitions' state that its tables stand for, its queues of ready threads, what was decided last, and the words that count the
-- references, with their notes
pub record CoreView (W : Type 0) : Type 0 where
  pub state : State
  pub ready : Ready
  pub decision : Decision
  pub words : W
  pub notes : Notes

-- the tables keep what they keep beside the rows, and the queues are those of the threads that there may be
pub record IsCore {W N : Type 0} (tables : Tables W N) (ready : Ready) : Type 0 where
  pub kept : AreKept tables
  pub size : ready.threads ≡ BOOT_OBJECTS

-- a core that runs a script: the script is in shape, and the rows are well-formed rows of it
pub record RunsScript {W : Type 0} (script : Script) (core : CoreView W) : Type 0 where
  pub shaped : IsShaped script
  pub rows : AreRows script core.state
