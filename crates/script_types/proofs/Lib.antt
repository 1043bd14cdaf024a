pub mod LimitLaws
pub mod NameLaws
pub mod NamesApart
pub mod NewNames
pub mod NumberLaws
pub mod ProcessThreads
pub mod ShapeLaws
