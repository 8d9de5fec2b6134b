pub mod Adding
pub mod Whole
pub mod Inside
pub mod Naming
pub mod Spelling
