pub mod CheckedConstructors
pub mod FieldConstructors
pub mod GrownPools
pub mod LinkedConstructors
pub mod ShortNeeds
pub mod SoundCode
pub mod SoundConstructors
pub mod WrittenClasses
