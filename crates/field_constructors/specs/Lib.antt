pub mod Constructors
pub mod Inner
pub mod Laws
