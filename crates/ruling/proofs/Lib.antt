-- What the proofs cite: one lane is one guess. Its literals, its T and F stage after stage, what it assumes, and whether it is contradicted.
pub mod Sides
pub mod Stages
pub mod Assuming
pub mod Ruled
