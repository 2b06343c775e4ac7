pub mod ConstructorMethods
pub mod Inner
