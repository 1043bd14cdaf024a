-- The states that actions and histories leave.
pub mod AfterHistory
pub mod Choices
pub mod Histories
pub mod Idleness
pub mod LeftRows
pub mod Makings
pub mod Modes
pub mod NextState
