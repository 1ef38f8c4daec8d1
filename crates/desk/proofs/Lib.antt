-- What the proofs cite: words and bytes in a buffer, and what the desk call returns.
pub mod Placed
pub mod Laws
