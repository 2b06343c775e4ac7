pub mod Counts
pub mod Numbers
pub mod Reading
pub mod Inner
