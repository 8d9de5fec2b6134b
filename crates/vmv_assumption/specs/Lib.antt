pub mod Whole
pub mod Assumed
pub mod Change
pub mod Within
