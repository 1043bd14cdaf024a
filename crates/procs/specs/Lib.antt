pub mod Kept
pub mod ProcsRows
pub mod Rows
