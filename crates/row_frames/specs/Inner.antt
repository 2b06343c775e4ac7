-- Words for private functions: no public contract cites them.
pub mod Becoming
pub mod Forms
pub mod Rows
pub mod Scopes
pub mod Stacks
