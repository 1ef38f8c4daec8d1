-- What the contracts cite: T and F as the code holds them.
pub mod Pairs
