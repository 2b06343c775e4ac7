pub mod BecomingLocals
pub mod InitialisedTypes
pub mod MappedSoFar
pub mod OlderObjects
pub mod PickedOperands
pub mod Pushing
