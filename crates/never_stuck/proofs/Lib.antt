mod LibraryAlone
mod Turns
mod TypedRuns
mod TypedSteps
mod TypedByFrames
