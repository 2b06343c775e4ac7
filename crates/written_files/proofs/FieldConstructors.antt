-- Field constructors in written classes: their bytes, their constants, and the frames that type them.
pub mod Bytes
pub mod Calls
pub mod Checks
pub mod Constants
pub mod Linking
pub mod Member
pub mod Operands
pub mod Running
pub mod Sequences
pub mod Steps
pub mod Typing
