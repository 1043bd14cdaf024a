pub mod Arrival
mod Bits
mod Highest
mod Keeping
mod Picked
mod Threads
