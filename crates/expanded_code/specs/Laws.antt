-- What follows from the definitions, stated once for the crates that stand on them. All of it is proved: a reader of the definitions need not
-- believe it, and may pass it over.
pub mod Instructions
pub mod NumberedInstrs
pub mod SuperChains
pub mod CutMethods
pub mod Searches
pub mod CodedMethods
pub mod QuietInert
pub mod RowUnits
pub mod StatedUnits
pub mod EntryUnits
