mod NameOrder
mod Words
pub mod FirstBytes
pub mod Greatest
