pub mod FitsTypes
pub mod HeldRows
pub mod Inner
pub mod Laws
pub mod Setting
pub mod StatedFrames
pub mod Writing
