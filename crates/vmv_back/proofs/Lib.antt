pub mod Slots
pub mod Narrowing
pub mod Keeping
pub mod Emptied
pub mod Found
pub mod Params
pub mod Whole
pub mod Boxed
