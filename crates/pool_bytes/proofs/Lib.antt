pub mod Copies
pub mod CutBack
pub mod Cuts
pub mod Entries
pub mod PoolReads
pub mod AnswerParts
pub mod TextParts
pub mod Moves
