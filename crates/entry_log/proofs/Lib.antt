mod Bytes
mod Digits
mod EntryParts
mod Joins
mod NextPlace
mod Pieces
mod ReadActor
mod ReadEffect
mod ReadHolder
mod ReadNumber
mod ReadPart
mod ReadStep
mod ReadWord
mod SameEntries
pub mod SameHistories
