-- What the answers of the code mean.
pub mod Refused
pub mod Steps
pub mod Opened
