pub mod Pushing
pub mod Lexing
pub mod TreeTokens
pub mod Derived
pub mod Saying
pub mod Printed
pub mod Writing
