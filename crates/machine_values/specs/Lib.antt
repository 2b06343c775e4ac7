pub mod Values
pub mod Heaps
pub mod Frames
pub mod Counts
