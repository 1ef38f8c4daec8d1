-- What several proofs cite: laws of the words that a reduct is written to, of what the masks of a rule bring to them, and of the negations
-- as they are numbered.
pub mod Words
pub mod Joined
pub mod Kept
pub mod Numbering
pub mod Turns
pub mod Reduced
