pub mod Bits
pub mod Calls
pub mod Kept
pub mod Names
pub mod Rows
pub mod Table
