pub mod Refusals
pub mod Heads
pub mod Places
pub mod Lines
pub mod Reads
