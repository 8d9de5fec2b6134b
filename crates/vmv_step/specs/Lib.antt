pub mod Zones
pub mod Fails
pub mod Steps
pub mod Loops
pub mod Enter
pub mod Agree
