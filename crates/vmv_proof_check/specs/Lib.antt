pub mod Cuts
pub mod Parts
pub mod Counts
pub mod Proofs
pub mod Work
