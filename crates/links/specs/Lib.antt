pub mod Linked
pub mod Owned
pub mod Rings
