pub mod FieldConstructors
pub mod GrownPools
pub mod SoundCode
pub mod SoundConstructors
pub mod SoundNeeds
pub mod WrittenClasses
