pub mod FirstHolding
pub mod NextActions
pub mod Planned
pub mod TaskParts
