pub mod Depths
pub mod Differing
pub mod FewUnits
pub mod FieldUnits
pub mod OwnUnits
pub mod PlainEntries
