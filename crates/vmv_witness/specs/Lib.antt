pub mod Numbers
pub mod Text
pub mod Faults
pub mod Fit
pub mod Told
pub mod Reading
