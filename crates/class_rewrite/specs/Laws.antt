pub mod OneLength
pub mod OneReason
pub mod OneWriting
pub mod OneFolder
pub mod GrownPools
pub mod MadeConstructors
pub mod WrittenGrown
pub mod WrittenLists
