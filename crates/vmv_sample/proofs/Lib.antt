pub mod Naming
pub mod Pushing
pub mod Short
