pub mod State
pub mod Effects
pub mod Replay
pub mod Rooms
pub mod Laws
pub mod Forms
