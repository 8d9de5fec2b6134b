pub mod Seen
pub mod Others
pub mod Versions
pub mod Shown
pub mod Orders
