pub mod Judged
pub mod Since
pub mod Mentions
pub mod Said
pub mod Environments
pub mod Kept
