mod ActionsDone
pub mod Alone
mod Backs
mod BootCounts
mod BootGroups
mod BootNano
mod BootPlaces
mod BootProcs
mod BootReady
mod BootTables
mod BootUses
mod BothWays
mod DeathRows
mod FindsOnce
mod Goes
mod KernelGoes
mod LastEntry
mod Lighter
mod ListSteps
pub mod ModesSuit
pub mod NotesOut
mod OutKernel
mod OutSlots
mod RunningOps
pub mod Runs
mod ScheduleGoes
mod Sought
