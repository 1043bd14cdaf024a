pub mod Dying
pub mod Readable
