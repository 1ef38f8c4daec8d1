-- What the proofs cite: records in words, a guess that another covers, and what the verdict counts as.
pub mod Placed
pub mod Covers
pub mod Judging
