pub mod Given
pub mod Forms
