pub mod Emitting
pub mod Layout
pub mod EmittedCode
pub mod WideForm
pub mod ChosenForm
pub mod Inner
pub mod PlainItems
