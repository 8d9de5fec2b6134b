pub mod Programs
pub mod Snapshots
