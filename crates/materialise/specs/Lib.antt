pub mod Growing
pub mod Indices
pub mod MadeCode
pub mod Restacking
pub mod Inner
pub mod Laws
