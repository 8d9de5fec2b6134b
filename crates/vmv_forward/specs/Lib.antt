pub mod Least
pub mod Instances
pub mod Path
pub mod Paths
pub mod Waiting
pub mod Rounds
pub mod Rows
pub mod Grow
