pub mod Forms
pub mod Numbered
mod SmallFlats
