pub mod Choice
pub mod Interrupts
