-- What the proofs cite: what one rule brings to T and F, some rule of a program in words, passes over the rules, sure rules with empty
-- heads, the negations that a guess has to have and may have, and the parts of "contradicted".
pub mod OneRule
pub mod Programs
pub mod Passes
pub mod Heads
pub mod Bounds
pub mod Parts
