pub mod Arrival
pub mod Kept
pub mod Queue
pub mod Ready
