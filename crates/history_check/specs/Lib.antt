pub mod Checks
pub mod DeathText
pub mod FirstLines
pub mod Followed
pub mod InputParts
pub mod Legality
pub mod OfLine
pub mod Rows
