-- Words of 64 lanes as sets of numbers, the numbers for which a set is stable, and the table that takes it in.
pub mod Lanes
pub mod Cube
pub mod Planes
pub mod Rules
pub mod Smaller
pub mod Stable
pub mod Noted
pub mod Step
pub mod Summary
