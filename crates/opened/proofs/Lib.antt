-- What several proofs cite: rules and pairs as they are written in words.
pub mod Loaded
