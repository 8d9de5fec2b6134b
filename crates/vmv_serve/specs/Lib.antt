pub mod Lines
pub mod Serves
pub mod Services
