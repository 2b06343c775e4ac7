-- Words for private functions, measures, and the steps of the code: no public contract cites them. What the code is proved to do is
-- said without them, so a reader of the definitions may pass them over.
pub mod Active
pub mod Passing
pub mod Steps
pub mod Verifying
