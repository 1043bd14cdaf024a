pub mod HeldMutexes
pub mod OtherThreads
pub mod SoundChanges
pub mod SoundRequests
pub mod Soundness
