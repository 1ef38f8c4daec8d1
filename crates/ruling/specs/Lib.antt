-- What the code of ruling out says of lanes, on plain lists of words; and which guesses are free.
pub mod Literals
pub mod Laid
pub mod Pass
pub mod Reached
pub mod Contradiction
pub mod Assumed
pub mod Free
