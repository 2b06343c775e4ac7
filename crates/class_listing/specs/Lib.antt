pub mod Mnemonics
pub mod Operations
pub mod Lines
pub mod Listings
pub mod Inner
