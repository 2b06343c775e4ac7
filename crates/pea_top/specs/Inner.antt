-- Words for private functions and the steps of the code: no public contract cites them. What the code is proved to do is said
-- without them, so a reader of the definitions may pass them over.
pub mod Reading
pub mod ReadingSteps
pub mod ReadFiles
pub mod Optimising
pub mod Both
pub mod Generating
pub mod Scripts
pub mod Listing
pub mod Linking
pub mod Verifying
pub mod Writing
pub mod CommandEffects
pub mod Deciding
pub mod Ended
