-- Who is out: what actions do to it, and what histories tell of it.
pub mod Actions
pub mod Dormant
pub mod Entries
pub mod Moves
pub mod Runs
