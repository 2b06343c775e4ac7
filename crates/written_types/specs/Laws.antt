-- Laws of this crate's words that other crates cite.
pub mod QuietRows
