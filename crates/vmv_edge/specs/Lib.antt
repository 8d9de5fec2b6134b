pub mod Outside
pub mod Calls
pub mod Held
pub mod Forms
