pub mod SeenLemmas
pub mod DeterminedLemmas
pub mod NamedLemmas
pub mod OthersLemmas
pub mod VersionsLemmas
pub mod ShownLemmas
pub mod FailureLemmas
pub mod OrdersLemmas
