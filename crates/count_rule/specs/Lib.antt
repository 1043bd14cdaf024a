pub mod Views
pub mod Shows
pub mod Moves
pub mod Seats
