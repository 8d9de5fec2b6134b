mod Views
mod CodeViews
mod Once
pub mod Codes
