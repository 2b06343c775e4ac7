pub mod Listings
pub mod Trees
pub mod Streams
pub mod Buffers
