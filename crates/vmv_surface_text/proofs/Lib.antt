mod Examples
pub mod Chains
pub mod Atoms
pub mod Leading
pub mod Outside
pub mod Operands
pub mod Operators
pub mod Readers
