pub mod Emptied
pub mod Threads
pub mod Waiting
