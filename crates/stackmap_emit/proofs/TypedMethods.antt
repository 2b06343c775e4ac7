-- What types items types the method that has them laid out.
pub mod ItemHandlers
pub mod ItemPoints
pub mod ItemRows
pub mod NamedClasses
pub mod Offsets
pub mod PlacedStates
pub mod RowsOverPools
pub mod WholeMethod
