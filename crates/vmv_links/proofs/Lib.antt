pub mod RingLemmas
pub mod SpellsLemmas
pub mod NodesLemmas
pub mod Walks
