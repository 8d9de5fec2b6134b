pub mod Firsts
pub mod Assigned
pub mod Facts
pub mod Boxes
pub mod Kept
