pub mod Faults
pub mod Fields
pub mod LineAt
pub mod LineSigns
pub mod Operands
pub mod Pieces
pub mod Signs
