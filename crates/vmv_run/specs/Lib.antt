pub mod Slots
pub mod Steps
pub mod Asked
pub mod Replay
pub mod Constant
pub mod Source
pub mod Walk
