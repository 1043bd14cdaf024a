-- The lives of objects: made, dead with the last reference, and swept.
pub mod Bits
pub mod NewObjects
pub mod Outs
pub mod Places
pub mod LivesMove
pub mod Kinds
pub mod Closes
pub mod Fresh
