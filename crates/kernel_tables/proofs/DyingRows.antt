-- Rows of threads that die.
use Rattle.std.proofs.Common.{◌≡◌, ℕ, List, refl}
use Rattle.state_rows.specs.declared.thread.ThreadRow.{ThreadRow}
use Rattle.machine.specs.declared.death_move.DeathMove.{DeathMove}
use Rattle.machine.specs.declared.death_move.DeathMove.TheVariants.{Note, Doom, Clean, Bury}
use Rattle.machine.specs.DeathMoves.{death_row, death_told}
use Rattle.kernel_tables.specs.Counts.{CountsMove}

-- a death leaves what a thread uses, and its priority
pub death_uses : (m : DeathMove) (row : ThreadRow) → (death_row m row).uses ≡ row.uses
death_uses (Note t exit) row = refl
death_uses (Doom t exit) row = refl
death_uses (Clean t) row = refl
death_uses (Bury t) row = refl

pub death_priority : (m : DeathMove) (row : ThreadRow) → (death_row m row).priority ≡ row.priority
death_priority (Note t exit) row = refl
death_priority (Doom t exit) row = refl
death_priority (Clean t) row = refl
death_priority (Bury t) row = refl

-- it tells of no reference
pub death_counts : (counts : List ℕ) (m : DeathMove) → CountsMove counts counts (death_told m)
death_counts counts (Note t exit) o = refl
death_counts counts (Doom t exit) o = refl
death_counts counts (Clean t) o = refl
death_counts counts (Bury t) o = refl
