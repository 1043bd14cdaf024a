-- The definitions' state that the kernel's tables stand for.
use Rattle.std.specs.Prelude.{List, map}
use Rattle.state_rows.specs.declared.handle_slot.HandleSlot.{HandleSlot}
use Rattle.handles.specs.HandleTable.{HandleTable}
use Rattle.machine.specs.declared.state.State.{State}
use Rattle.kernel_tables.specs.declared.tables.Tables.{Tables}

-- the places of each handle table
abbrev pub slots_of : List HandleTable → List (List HandleSlot)
slots_of tables = map (λ (t : HandleTable). t.slots) tables

-- each field of the state is the value of one table, and how the kernel is called stands beside the tables
abbrev pub state_of : {W N : Type 0} → Tables W N → State
state_of tables = record {
  mode = tables.mode;
  references = record {
    objects = tables.objects.rows;
    made = tables.objects.made;
    handles = slots_of tables.handles;
    threads = tables.procs.threads;
    owed = tables.cleanup.duties;
  };
  synchronization = record {
    nano = tables.nano;
    deferred = tables.deferred;
    requests = tables.requests;
    locks = tables.locks.rows;
    mutexes = tables.cleanup.mutexes;
    logons = tables.cleanup.logons;
  };
  serving = record {
    servers = tables.servers;
    owned = tables.cleanup.servers;
    messages = tables.messages;
  };
  services = record {
    memories = tables.procs.processes;
  };
}
