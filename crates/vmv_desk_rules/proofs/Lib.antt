pub mod FitsLemmas
pub mod RootLemmas
pub mod WellLemmas
pub mod ChainLemmas
pub mod OnceLemmas
pub mod BegunLemmas
pub mod MigratingLemmas
pub mod HeardLemmas
