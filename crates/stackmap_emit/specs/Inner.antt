-- Words for private functions and the steps of the code: no public contract cites them.
pub mod ClassIndices
pub mod PlacedUnits
pub mod BlockTables
pub mod Marks
pub mod Walking
