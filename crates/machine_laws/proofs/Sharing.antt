-- Callers who share the kernel: what one caller does alone they may do, and who is out.
pub mod Acted
pub mod Decided
pub mod Losses
pub mod Moved
pub mod Outs
pub mod Parts
pub mod Returns
pub mod Told
pub mod Seekers
