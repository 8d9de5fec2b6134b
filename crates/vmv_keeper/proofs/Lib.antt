pub mod FormedReads
pub mod ListChanges
pub mod FormedAfter
