pub mod Cutting
pub mod Inserting
pub mod Finding
pub mod Searching
pub mod Matching
pub mod Leading
pub mod Making
pub mod Parts
