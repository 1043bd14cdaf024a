pub mod Appends
pub mod ErrorCode
pub mod Greatest
pub mod KindNumber
pub mod NameText
pub mod Padded
pub mod Spells
pub mod WordText
