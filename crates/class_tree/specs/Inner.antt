-- Words for private functions, measures, and the steps of the code: no public contract cites them. What the code is proved to do is
-- said without them, so a reader of the definitions may pass them over.
pub mod Graphs
pub mod InterfaceNumbers
pub mod MemberIndex
pub mod Nodes
pub mod Parts
pub mod Placing
