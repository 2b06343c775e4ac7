-- Words for private functions: no public contract cites them. What the code is proved to do is said without them, so a reader of the
-- definitions may pass them over.
pub mod DraftedBlocks
pub mod MadeBlocks
pub mod MadeItems
pub mod NumberedBlocks
pub mod PadBlocks
pub mod PassBlocks
pub mod PointBlocks
pub mod ReachedPoints
