pub mod Active
pub mod Numbers
pub mod Telling
