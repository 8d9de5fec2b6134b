pub mod Basing
pub mod Stopping
