-- What the proofs cite: rules written to words, what is grown by them, the subsets that the search has tried, and the test by its parts.
pub mod Written
pub mod Growing
pub mod Tried
pub mod Excluding
pub mod Masked
