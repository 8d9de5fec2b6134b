pub mod Thresholds
pub mod Sizes
pub mod Walk
pub mod Tables
pub mod Places
