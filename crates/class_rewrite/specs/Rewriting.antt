-- The rewriting of a folder by least plans: what becomes of each method, and the folder that is written.
pub mod Methods
pub mod Folders
pub mod Lines
pub mod WellWritten
pub mod Verifying
