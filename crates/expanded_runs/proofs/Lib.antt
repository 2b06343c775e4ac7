pub mod ByteCodes
mod AloneCode
mod AloneProgram
mod FlatPlaces
mod Plans
mod Ready
mod Replacements
mod Runs
mod StackRoom
mod TypedAloneBody
mod TypedAloneEdges
mod TypedAloneHandlers
mod TypedAloneLaw
mod TypedAloneNews
mod TypedAloneNumbers
mod TypedAlonePoints
mod Types
