-- What strikes a set of atoms for every guess, and the candidates that are left.
pub mod Rules
pub mod Candidates
