-- What the walk of the code, and its state where it is paused, mean.
pub mod Walks
pub mod Pauses
