pub mod CanonicalText
pub mod PrintedWord
pub mod Spelled
