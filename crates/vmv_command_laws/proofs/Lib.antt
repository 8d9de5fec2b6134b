pub mod Determined
pub mod Files
pub mod Replaying
pub mod Reviewing
pub mod Rechecking
pub mod Sampling
pub mod Outputs
pub mod Words
