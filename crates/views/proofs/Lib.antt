-- What several proofs cite: the refusals that no run comes to.
pub mod Refusals
