pub mod Objects
pub mod Fields
pub mod Removals
pub mod Orders
pub mod Ranks
pub mod Gaps
