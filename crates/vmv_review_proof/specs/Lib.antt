pub mod Proofs
pub mod Limit
