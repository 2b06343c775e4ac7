-- What follows from the definitions, stated once for every crate that speaks in their words. All of it is proved: a reader of
-- the definitions need not believe it, and may pass it over.
pub mod FirstNumbers
pub mod FolderClasses
pub mod FolderNumbers
pub mod OwnMembers
pub mod Parameters
pub mod Renumbered
pub mod ResultTexts
pub mod TranslatedOps
pub mod OwnMethods
pub mod ProgramHeaders
pub mod ProgramMembers
pub mod Scopes
