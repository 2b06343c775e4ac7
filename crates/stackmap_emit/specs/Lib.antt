pub mod PlacedFrames
pub mod FrameConstants
pub mod FramesAttribute
pub mod TypedMethods
pub mod Inner
pub mod Laws
pub mod FramedItems
pub mod WideItems
