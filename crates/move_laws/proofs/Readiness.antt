-- The ready list: it has exactly the threads that are ready, each once.
pub mod ReadyLists
pub mod HasTask
pub mod ReadyParts
pub mod Touched
pub mod FirstReady
pub mod ReadyHolders
pub mod ReadyActions
