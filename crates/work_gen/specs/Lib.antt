pub mod BaseLibrary
pub mod Values
pub mod Generated
pub mod Entries
pub mod Laws
