pub mod Allowed
pub mod Answered
pub mod Courses
pub mod Deaths
pub mod KernelThreadScripts
pub mod PlainView
pub mod SharedActions
