pub mod Moving
pub mod Reading
pub mod Naming
pub mod Counting
pub mod Heading
