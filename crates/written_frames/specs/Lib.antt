pub mod BlockStarts
pub mod FewLocals
pub mod Inner
pub mod Laws
pub mod WideItems
