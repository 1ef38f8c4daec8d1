-- What the proofs cite: the digest of a rule, and the rules at a set, rule by rule.
pub mod Digesting
pub mod Gathering
