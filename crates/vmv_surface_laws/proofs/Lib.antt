pub mod Same
pub mod Names
pub mod Rows
pub mod Valuations
pub mod Expressions
pub mod Tests
pub mod Statements
pub mod Bodies
pub mod Programs
mod Examples
