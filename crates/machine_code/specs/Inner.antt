-- Words for private functions.
pub mod Jumps
pub mod Moves
pub mod PreparedTables
pub mod Preparing
pub mod QuestionWords
pub mod Resolved
pub mod Translating
pub mod Units
