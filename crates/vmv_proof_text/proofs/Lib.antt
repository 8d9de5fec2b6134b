pub mod Writing
pub mod Measuring
pub mod Counting
