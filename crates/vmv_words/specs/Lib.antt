pub mod Clap
pub mod Requests
pub mod Services
pub mod Words
