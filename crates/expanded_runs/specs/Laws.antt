-- Laws of the words of this crate.
pub mod KeptNames
pub mod SpelledNames
