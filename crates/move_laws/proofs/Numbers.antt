-- The numbers of a state and of an action fit their types.
pub mod CountSmall
pub mod Instructions
pub mod FewEffects
pub mod Registers
