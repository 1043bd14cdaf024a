-- How threads die, read off the moves of actions.
pub mod CleanedRows
pub mod HistoryCuts
pub mod AfterCleaning
pub mod DeathsTold
pub mod AfterDoom
pub mod OwnCleaning
pub mod EffectSums
pub mod CleanedIdle
pub mod InOrder
pub mod LeftAtCleaning
pub mod LockMoves
pub mod Moves
pub mod OnceEach
pub mod Rows
pub mod Runs
pub mod Tables
