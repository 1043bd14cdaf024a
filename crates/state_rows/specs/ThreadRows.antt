-- Rows of threads.
use Rattle.std.specs.Prelude.{None, replicate}
use Rattle.sym_base.specs.declared.number.ObjNo.{ObjNo}
use Rattle.state_rows.specs.declared.thread.Role.TheVariants.{Supervisor}
use Rattle.state_rows.specs.declared.thread.Stage.TheVariants.{Live}
use Rattle.state_rows.specs.declared.thread.Waiting.TheVariants.{Nothing}
use Rattle.state_rows.specs.declared.thread.ThreadRow.{ThreadRow}

-- a thread of a process that was just added; its role and its link are set afterwards
abbrev pub new_thread : ObjNo → ThreadRow
new_thread process = record {
  role = Supervisor;
  process = process;
  link = None;
  stage = Live;
  exit = None;
  noted = None;
  priority = 0;
  waiting = Nothing;
  next_instruction = 0;
  part = None;
  found = 0;
  sought = record { 0 = 0 };
  sought_place = 0;
  uses = None;
  registers = replicate 8 0;
  messages = replicate 8 0;
}
