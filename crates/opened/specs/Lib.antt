-- What the answers of the code mean, and what stands in the words.
pub mod Fetched
pub mod Loaded
