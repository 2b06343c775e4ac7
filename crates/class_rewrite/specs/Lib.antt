pub mod Reasons
pub mod Rewriting
pub mod ReasonNames
pub mod Reports
pub mod Optimised
pub mod Laws
pub mod Inner
