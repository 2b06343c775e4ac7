pub mod Held
pub mod Reading
pub mod Lines
pub mod SpacedWords
