pub mod Rows
pub mod Baselines
pub mod Reports
pub mod Texts
pub mod Work
pub mod Regressions
