-- What the proofs cite: the minutes of change, the answer by records, and what the calls return.
pub mod Laws
pub mod Minutes
pub mod Answered
