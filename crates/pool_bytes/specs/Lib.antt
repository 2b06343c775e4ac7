pub mod Appended
pub mod Behind
pub mod Items
pub mod ReadBack
pub mod Reading
pub mod Texts
pub mod Inner
