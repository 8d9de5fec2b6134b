pub mod Candidates
pub mod Thresholds
pub mod Acts
pub mod Rounds
pub mod Vacuous
pub mod Needed
pub mod Plan
