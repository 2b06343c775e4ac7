pub mod TypedReplacements
pub mod FlatTypings
