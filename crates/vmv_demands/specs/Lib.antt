pub mod Wants
pub mod Shifts
pub mod Needs
pub mod Back
pub mod Leads
pub mod Sources
pub mod Demands
pub mod Ends
