-- Threads that are ready as far as their rows say.
use Rattle.std.specs.Prelude.{Bool, true, false, not, ◌&&◌}
use Rattle.state_rows.specs.declared.thread.Role.{Role}
use Rattle.state_rows.specs.declared.thread.Role.TheVariants.{Supervisor, Queue, Declared}
use Rattle.state_rows.specs.declared.thread.Stage.{Stage}
use Rattle.state_rows.specs.declared.thread.Stage.TheVariants.{Live, Doomed, Cleaned, Buried}
use Rattle.state_rows.specs.declared.thread.ThreadRow.{ThreadRow}
use Rattle.machine.specs.Out.{is_returning}
use Rattle.machine.specs.Task.{is_wait}

-- a thread that lives in a list of instructions of its own has always something to do, and so has a doomed one
abbrev pub is_busy : Stage → Role → Bool
is_busy Live (Declared k) = true
is_busy Live Supervisor = false
is_busy Live (Queue queue) = false
is_busy Doomed role = true
is_busy Cleaned role = false
is_busy Buried role = false

-- if it waits for nothing and isn't at a return either, it is ready, unless it is suspended
abbrev pub runs_on : ThreadRow → Bool
runs_on row = is_busy row.stage row.role && not (is_wait row.waiting) && not (is_returning row.part)
