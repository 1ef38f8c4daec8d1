-- The digest of the rules, and the rules at a set of atoms, as the code has them.
pub mod Digests
pub mod Gathers
