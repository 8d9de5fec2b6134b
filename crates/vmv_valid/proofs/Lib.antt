pub mod Walking
pub mod FirstFound
pub mod Placed
pub mod Measured
pub mod Turned
pub mod PlacedItems
pub mod NextItem
pub mod Distinct
pub mod Reached
mod TooDeep
mod Held
