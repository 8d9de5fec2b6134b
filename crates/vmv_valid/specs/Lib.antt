pub mod Names
pub mod Callees
pub mod Measures
pub mod Numbers
pub mod Walks
pub mod Same
