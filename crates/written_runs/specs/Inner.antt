-- The relation between runs of the program with flat codes and of the one with written codes.
pub mod MadeObjects
pub mod PlannedFrames
pub mod Setup
pub mod Standing
pub mod Together
pub mod Waiting
