-- What the proofs cite: the rules at a set in words, and the table set after set.
pub mod Sets
pub mod Filling
