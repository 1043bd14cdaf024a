pub mod Allowed
pub mod Blocks
pub mod Valid
pub mod Wrapping
