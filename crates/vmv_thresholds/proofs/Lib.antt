pub mod Lists
pub mod Called
pub mod Among
pub mod Placed
pub mod Entries
pub mod Ends
pub mod Ordered
pub mod Rounding
