pub mod Tables
pub mod Marks
pub mod Agreement
pub mod Slots
pub mod Comparing
pub mod Places
pub mod Filling
pub mod Listed
