-- What several proofs cite, and what a loop's invariant and its answers share: laws of steps and their readings, and the loops.
pub mod Laws
pub mod Compared
pub mod Loops
pub mod NameSought
pub mod NameLoop
pub mod MaskLoop
pub mod RuleLoop
pub mod PairLoop
