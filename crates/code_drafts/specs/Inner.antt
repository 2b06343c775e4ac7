-- Words for private functions: no public contract cites them. What the code is proved to do is said without them, so a reader of the
-- definitions may pass them over.
pub mod CarriedWords
pub mod CellWords
pub mod DecidedWords
pub mod DraftStarts
pub mod Ends
pub mod Parts
pub mod WrittenWords
