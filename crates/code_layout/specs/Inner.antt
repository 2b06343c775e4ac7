-- Words for private functions.
pub mod Writing
