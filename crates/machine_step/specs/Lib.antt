pub mod Bounded
pub mod Completing
pub mod FewOperands
pub mod Room
pub mod SpentWorlds
pub mod Inner
