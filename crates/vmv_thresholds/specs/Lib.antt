pub mod Thresholds
pub mod Collect
