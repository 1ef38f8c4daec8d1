-- What the answers of the code mean, and words written over others.
pub mod Verdicts
pub mod Over
