pub mod VirtualObjects
pub mod WrittenRuns
pub mod Inner
pub mod Laws
