pub mod BornFew
pub mod Capped
pub mod DoomedHandles
pub mod HandleNumbers
pub mod Instructions
pub mod Sought
pub mod ThreadSpans
