-- Words of this crate's proofs.
pub mod CarriedFrames
