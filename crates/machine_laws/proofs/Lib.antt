pub mod AtBoot
pub mod Fitting
pub mod Reached
pub mod Sharing
pub mod ValidSlots
pub mod WorkedExample
