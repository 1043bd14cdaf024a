pub mod Lists
pub mod Queueing
pub mod Seen
pub mod Storing
