-- What the proofs cite: a turn of the pass, and the verdict from what is gathered.
pub mod Passing
pub mod Judging
