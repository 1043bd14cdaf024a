pub mod Deathless
pub mod KernelThreadRuns
pub mod MoveDeaths
pub mod Performing
pub mod Rooms
pub mod SmallRows
pub mod Steps
