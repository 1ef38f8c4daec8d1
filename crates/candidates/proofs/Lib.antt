-- What the proofs cite: the lanes of a word rule by rule and atom by atom, and why what is struck is stable for no guess.
pub mod Lanes
pub mod Struck
