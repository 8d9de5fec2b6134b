pub mod PlacesLemmas
pub mod TwoLists
pub mod QueuesLemmas
pub mod HeldLemmas
pub mod TextsLemmas
pub mod BenchesLemmas
pub mod AskedLemmas
pub mod HandledLemmas
mod SaidLemmas
