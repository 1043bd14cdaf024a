-- Facts about lists of any items.
pub mod Cases
pub mod Contents
pub mod Copies
pub mod Each
pub mod Mapped
pub mod Partition
pub mod Sets
pub mod Totals
