-- Words for private functions.
pub mod Climbs
pub mod Kept
pub mod Kinds
