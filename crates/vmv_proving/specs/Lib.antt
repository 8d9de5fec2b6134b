pub mod Exclusions
pub mod Shown
pub mod Work
