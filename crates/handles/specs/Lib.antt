pub mod Bits
pub mod HandleTable
pub mod Kept
pub mod Table
pub mod Used
