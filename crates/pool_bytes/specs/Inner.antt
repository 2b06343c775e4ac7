-- Words for private functions, measures, and the steps of the code: no public contract cites them. What the code is proved to do is
-- said without them, so a reader of the definitions may pass them over.
pub mod Dynamics
pub mod Entries
pub mod Kinds
pub mod Raw
pub mod TextChecks
