pub mod Surface
pub mod Runs
pub mod Temporaries
pub mod Lower
