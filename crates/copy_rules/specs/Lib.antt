pub mod Ends
pub mod Memory
pub mod Pieces
pub mod Refusals
pub mod Sizes
