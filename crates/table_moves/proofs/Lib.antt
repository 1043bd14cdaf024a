mod Counted
pub mod DyingRows
mod Filling
pub mod GoneLogons
mod NotesKept
pub mod Noting
pub mod Owned
pub mod Places
pub mod RowsOfThreads
