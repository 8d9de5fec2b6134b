pub mod Adding
pub mod Whole
pub mod Labels
pub mod Joining
