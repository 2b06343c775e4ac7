-- Expanded flat codes are ready to be written.
mod PointKinds
mod FlatSites
pub mod CandidateSites
mod Comes
mod StoredBack
mod RowKeeps
mod PlainRows
mod OwnRows
mod Catches
mod OwnEdges
mod EntryTypes
mod EntryEdges
mod ReturnEdges
mod Uninits
mod DecodedForms
mod LinkedUses
mod ReadyPoints
pub mod CarriedPoints
pub mod VersionPoints
mod AccessKept
pub mod UsablePoints
pub mod UsableCatches
pub mod CaughtNames
pub mod Whole
