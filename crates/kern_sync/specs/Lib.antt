pub mod Kept
pub mod KernelLocks
