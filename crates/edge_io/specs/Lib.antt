pub mod Adapted
pub mod Calls
pub mod Faults
pub mod Left
pub mod MemSink
pub mod MemSource
pub mod Written
