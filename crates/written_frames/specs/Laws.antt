-- What follows of the definitions alone: a reader of the definitions may pass it over.
pub mod Turnings
