pub mod FlatCode
pub mod FlatRoom
pub mod TypedFrames
pub mod ReadTypes
pub mod WrittenUnits
