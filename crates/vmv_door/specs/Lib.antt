pub mod Links
pub mod Forms
