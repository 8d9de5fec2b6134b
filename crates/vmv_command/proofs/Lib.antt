pub mod Outputs
pub mod Verdict
pub mod Fitting
pub mod Regression
pub mod Reviewing
pub mod Rechecking
pub mod Sampling
