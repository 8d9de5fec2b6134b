pub mod Unique
pub mod Cutting
pub mod Excluding
pub mod Counting
pub mod Accepting
