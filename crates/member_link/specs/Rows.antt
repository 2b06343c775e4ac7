-- The table of instructions (JVM Specification SE 8, 4.10.1.9): what each takes from the frame before it, what it gives and
-- which further conditions it has.
pub mod FrameAssignability
pub mod Assigning
pub mod Operands
pub mod Row
pub mod LocalRows
pub mod ArithmeticRows
pub mod ShuffleRows
pub mod ArrayRows
pub mod MemberRows
pub mod Table
pub mod Readings
