pub mod Lists
pub mod Counted
pub mod Few
pub mod Turned
pub mod Refusals
