pub mod Holders
pub mod Lists
pub mod Lives
pub mod MoveLaws
pub mod Numbers
pub mod Readiness
pub mod References
pub mod RowLaws
