-- How much a thread weighs, and what lowers and raises it.
pub mod DoomedActions
pub mod Closes
pub mod Entries
pub mod Gives
pub mod Lighter
pub mod Lists
pub mod Lowers
pub mod ProcessTables
pub mod Moves
pub mod Others
pub mod Own
pub mod Parts
