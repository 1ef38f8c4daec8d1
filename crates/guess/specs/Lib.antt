-- A program with K and M as the code holds it, and what the code of a guess means for it.
pub mod Programs
pub mod Negations
pub mod Acted
pub mod Numbered
pub mod Settings
