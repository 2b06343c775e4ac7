pub mod EmittedCode
pub mod Inner
