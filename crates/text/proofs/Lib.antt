-- What several proofs cite: text appended to a buffer, lines made of fields, and the names of an accepted sheet.
pub mod Append
pub mod Fields
pub mod Named
