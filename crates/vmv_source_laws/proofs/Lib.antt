pub mod Plain
pub mod Limits
pub mod Mentions
pub mod OneFault
