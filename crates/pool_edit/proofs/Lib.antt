pub mod Slots
pub mod Numbered
pub mod Cuts
pub mod Keeps
pub mod Firsts
pub mod Back
