pub mod Within
pub mod NoFault
