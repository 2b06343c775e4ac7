-- Words for private functions and the steps of the code: no public contract cites them.
pub mod Differences
pub mod FieldUnits
pub mod OwnUnits
pub mod PlainEntries
pub mod Rooms
pub mod Types
