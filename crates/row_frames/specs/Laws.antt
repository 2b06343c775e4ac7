-- Laws of rows: those of an instruction at another number, behind frames whose uninitialised objects have other numbers; and what constants name
-- where a pool has more of them.
pub mod MorePools
pub mod NumberedFrames
pub mod RenumberedArithmetic
pub mod RenumberedArrays
pub mod RenumberedEntry
pub mod RenumberedLocals
pub mod RenumberedMembers
pub mod RenumberedRows
pub mod RenumberedShuffles
pub mod RenumberedTable
pub mod RenumberedTargets
pub mod RenumberedTypes
