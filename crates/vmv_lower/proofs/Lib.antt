pub mod Numerals
pub mod Stacks
pub mod Runs
pub mod Ends
