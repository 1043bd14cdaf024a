mod DyingRows
mod Finds
pub mod FirstCount
pub mod GoingActions
mod GoingHolders
mod GoingLocks
mod GoingLogons
pub mod GoingMoves
mod GoingServers
mod LastClose
mod LockRows
mod NotesBack
mod Noting
mod OwnMoves
mod Owning
pub mod Performing
mod Ranks
pub mod ReadyChanges
pub mod ReadyLists
pub mod ReadyQueues
pub mod ReadyRows
mod RunningOn
mod Slots
mod Tying
