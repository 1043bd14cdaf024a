pub mod FindsLittle
pub mod Jobs
pub mod Sums
pub mod Whole
pub mod Worked
