pub mod Ended
pub mod EndedCheck
pub mod OneReading
