pub mod Apart
pub mod Calls
pub mod Choice
pub mod Edits
mod Fresh
pub mod Inserted
pub mod Marks
pub mod Owned
pub mod Removed
pub mod Seen
pub mod Walks
pub mod Without
