pub mod Objects
pub mod Blanks
pub mod Laws
pub mod Inner
pub mod Narrowings
pub mod ShortArrays
