-- Written classes as class files: what is read of a class file fits its items, and so does what is written of it, whose checks hold.
pub mod Flags
pub mod KeptParts
pub mod KeptValues
pub mod OwnCodes
pub mod OwnFiles
pub mod OwnParts
pub mod OwnPools
pub mod OwnValues
pub mod ShortNeeds
