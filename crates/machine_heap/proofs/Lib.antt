pub mod KeptEntries
pub mod ClimbedFields
pub mod KindLists
pub mod UnitLists
