pub mod Checking
pub mod Complete
pub mod Inputs
pub mod MadeText
pub mod Outputs
pub mod RunText
