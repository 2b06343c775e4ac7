pub mod InstrWords
pub mod ListingTexts
