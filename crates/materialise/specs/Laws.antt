-- What follows from the definitions, stated once for every crate that speaks in their words. All of it is proved: a reader of
-- the definitions need not believe it, and may pass it over.
pub mod DescribedConstructors
pub mod GrownEdits
