pub mod Forms
pub mod Making
pub mod Numbering
pub mod Flows
