-- Words for private functions.
pub mod Known
pub mod Kept
