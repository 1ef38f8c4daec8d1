-- What the proofs cite: what a guess counts as, a step of the walk, and the walk along a list of guesses.
pub mod Examined
pub mod Pausing
pub mod Steps
pub mod Along
pub mod Levels
pub mod Reaching
pub mod Entered
mod RestLoop
