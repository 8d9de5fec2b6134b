pub mod Paths
pub mod Routes
pub mod Matching
pub mod Fields
pub mod Asked
