-- Written code: what stands in place of a flat code by a plan of it.
pub mod Routes
pub mod Templates
pub mod Blocks
pub mod WrittenFrames
pub mod Finish
pub mod WrittenCode
pub mod Places
pub mod WrittenConstants
pub mod FramedCode
pub mod WrittenPrograms
