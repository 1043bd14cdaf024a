-- References, and what changes of rows do to the count of an object.
pub mod Same
pub mod Counts
pub mod Mutexes
pub mod Effects
pub mod Serving
