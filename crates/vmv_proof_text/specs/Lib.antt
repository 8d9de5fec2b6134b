pub mod Parts
pub mod States
pub mod Text
pub mod Lengths
pub mod Naming
pub mod Lines
pub mod Loose
pub mod Faults
