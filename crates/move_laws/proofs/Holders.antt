-- Who holds what, and what changes of rows do to it.
pub mod HoldersMove
pub mod MutexRows
pub mod Serving
pub mod SlotRows
pub mod ThreadRows
