-- When a piece of a copy fits the state.
use Rattle.std.specs.Prelude.{◌≤◌, ◌<◌, ℕ, IsTrue}
use Rattle.state_rows.specs.MessageRows.{is_taken}
use Rattle.copy_rules.specs.declared.job.CopyMove.{CopyMove}
use Rattle.copy_rules.specs.declared.job.CopyMove.TheVariants.{Read, Write}
use Rattle.copy_rules.specs.declared.job.Job.{Job}
use Rattle.copy_rules.specs.Ends.{ends_of}
use Rattle.copy_rules.specs.Sizes.{read_size, write_size}
use Rattle.machine.specs.declared.state.State.{State}

-- a piece of a copy of so many bytes: its message was taken, the descriptor is one of the four arguments, and the earlier pieces copied no more
-- bytes than all
pub record MayCopy (S : State) (job : Job) (size : ℕ) : Type 0 where
  pub taken : IsTrue (is_taken S.serving.messages job.m)
  pub arg : job.arg < 4
  pub done : job.done ≤ size

-- a piece of a copy fits the state
abbrev pub FitsCopies : CopyMove → State → Type 0
FitsCopies (Read job) S = MayCopy S job (read_size (ends_of S.references.threads S.serving.messages job) job)
FitsCopies (Write job) S = MayCopy S job (write_size job)
