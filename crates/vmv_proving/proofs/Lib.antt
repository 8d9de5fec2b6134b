pub mod Recorded
pub mod Frozen
pub mod Telling
pub mod Showing
