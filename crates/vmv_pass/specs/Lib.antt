pub mod Callees
pub mod Source
pub mod Holds
pub mod Room
pub mod Upper
pub mod Moves
pub mod Told
