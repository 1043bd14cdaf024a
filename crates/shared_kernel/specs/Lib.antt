pub mod Acts
pub mod Does
pub mod Draws
pub mod Returns
pub mod Told
pub mod Turned
pub mod Values
