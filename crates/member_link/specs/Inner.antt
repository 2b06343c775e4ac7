-- Words for private functions, measures, and the steps of the code: no public contract cites them. What the code is proved to do is
-- said without them, so a reader of the definitions may pass them over.
pub mod AlikeConstants
pub mod BodyParts
pub mod Counting
pub mod DefaultsAt
pub mod DefaultsOf
pub mod FieldSearch
pub mod FinalEnds
pub mod FinalMethods
pub mod NamedDescriptors
pub mod NeededForms
pub mod OpenMethods
pub mod Resolutions
pub mod Resolving
pub mod Scope
pub mod SelectionSteps
pub mod SlotWords
pub mod Spans
pub mod QuestionWords
