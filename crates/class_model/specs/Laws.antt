-- What follows from the definitions, stated once for every crate that speaks in their words. All of it is proved: a reader of
-- the definitions need not believe it, and may pass it over.
pub mod AlikeAttrs
pub mod Answers
pub mod Checks
pub mod ClassFiles
pub mod Codes
pub mod CutBack
pub mod Cuts
pub mod Descriptors
pub mod Frames
pub mod Lists
pub mod Pools
pub mod Texts
pub mod Decisions
