pub mod TypedClasses
pub mod Inner
