-- Words for private functions, measures, and the steps of the code: no public contract cites them. What the code is proved to do is
-- said without them, so a reader of the definitions may pass them over.
pub mod Calls
pub mod Changes
pub mod CodedScopes
pub mod Forms
pub mod Handlers
pub mod Keeping
pub mod Known
pub mod Meanings
pub mod NewClasses
pub mod ParsedCalls
pub mod Protected
pub mod Signatures
pub mod Steps
