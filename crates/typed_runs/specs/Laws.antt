-- What follows from the definitions, stated once for every crate that reads typed points. All of it is proved.
pub mod PlainReadings
