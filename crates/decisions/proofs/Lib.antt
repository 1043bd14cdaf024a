pub mod Functions
pub mod Registers
