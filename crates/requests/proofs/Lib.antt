pub mod Dropping
pub mod Known
pub mod Statuses
