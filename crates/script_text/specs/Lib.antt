pub mod Characters
pub mod PrintedTexts
pub mod Scripts
pub mod PrintedScripts
pub mod Events
pub mod Faults
pub mod Inner
