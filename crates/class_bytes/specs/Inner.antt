-- Words for private functions, measures, and the steps of the code: no public contract cites them. What the code is proved to do is
-- said without them, so a reader of the definitions may pass them over.
pub mod Bootstraps
pub mod CodeParts
pub mod Cut
pub mod HeaderParts
pub mod KnownShapes
pub mod MethodParts
pub mod Parts
pub mod Shapes
pub mod Signatures
pub mod TextNumbers
