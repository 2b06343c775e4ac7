pub mod Verifying
pub mod Inner
