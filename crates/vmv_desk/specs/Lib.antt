pub mod Queues
pub mod AtHand
pub mod Asked
