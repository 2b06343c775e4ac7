pub mod Counts
pub mod Host
pub mod Faults
pub mod Tree
pub mod Memory
pub mod Paths
pub mod Laws
