pub mod Needs
pub mod Chained
mod Found
