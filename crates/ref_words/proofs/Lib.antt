mod Filters
pub mod Notes
mod Soundness
